-- Bytes that stand in the code, at an offset and up to the end of a span; and what a fault there says of the code.
use Rattle.std.specs.Prelude.{slice_get}
use Rattle.std.proofs.Common.{◌≡◌, ℕ, suc, ◌+◌, ◌-◌, ◌<◌, ◌≤◌, List, [], ◌∷◌, ◌++◌, length, take, Some, refl, sym, ap}
use Rattle.std.proofs.Common.{subst, ◌∙◌, append_assoc, ◌⊎◌, arith, inl, inr}
use Rattle.std.proofs.lemmas.List.{length-append, append-nil, take_at, drop_at}
use Rattle.aml_names.specs.declared.faults.CodeFault.{CodeFault}
use Rattle.aml_names.specs.declared.faults.CodeFault.TheVariants as faults
use Rattle.aml_names.specs.NameReading.{NameFault}
use Rattle.aml_names.proofs.StepLaws.{IsBytes, Takes}
use Rattle.aml_code.specs.declared.packages.PkgWidth.{PkgWidth}
use Rattle.aml_code.specs.Packages.{width_len, package_bytes}
use Rattle.aml_code.specs.Tree.{slice_of}
use Rattle.aml_code.specs.Faults.{StandsThere, LengthThere, IsEnd, Arities, StandsAt}
use Rattle.aml_code.proofs.LengthLaws.{IsSpan, LengthFault, PastFault, length-package_bytes, width_some}

-- The bytes are a part of the code: they begin at an offset, and go on to the end of a span that begins before them.
pub record Within (code : List ℕ) (at end : ℕ) (bytes : List ℕ) : Type 0 where
  pub before : List ℕ
  pub behind : List ℕ
  pub text : code ≡ before ++ (bytes ++ behind)
  pub offset : length before ≡ at
  pub place : at + length bytes ≡ end
  pub is_end : IsEnd code at end
  pub fits : IsBytes bytes

pub whole : (code : List ℕ) → IsBytes code → Within code 0 (length code) code
whole code fits = record { before = []; behind = []; text = sym (append-nil code); offset = refl; place = omega arith; is_end = inl refl; fits = fits }

later : (code : List ℕ) (at more end : ℕ) → IsEnd code at end → IsEnd code (at + more) end
later code at more end (inl e) = inl e
later code at more end (inr (p, w, v, there, is, less)) = inr (p, w, v, there, is, omega (arith, less))

-- past what was taken
pub onward : (code : List ℕ) (at end : ℕ) (bytes front rest : List ℕ) → Within code at end bytes
    → Takes bytes front rest
    → Within code (at + length front) end rest
onward code at end bytes front rest w t =
    let split : code ≡ (w.before ++ front) ++ (rest ++ w.behind) =
    w.text ∙ ap (λ (b : List ℕ). w.before ++ (b ++ w.behind)) t.parts ∙ ap (λ (b : List ℕ). w.before ++ b) (append_assoc front rest w.behind)
    ∙ sym (append_assoc w.before front (rest ++ w.behind)) in
    let long : length bytes ≡ length front + length rest = ap length t.parts ∙ length-append front rest in
    record {
      before = w.before ++ front;
      behind = w.behind;
      text = split;
      offset = length-append w.before front ∙ ap (λ n. n + length front) w.offset;
      place = omega (arith, w.place, long);
      is_end = later code at (length front) end w.is_end;
      fits = t.rest_fits;
    }

-- into a package
pub inward : (code : List ℕ) (at end : ℕ) (bytes : List ℕ) (x : PkgWidth × List ℕ × List ℕ) → Within code at end bytes
    → IsSpan bytes x
    → Within code (at + width_len x.0) (end - length x.2) x.1
inward code at end bytes x w s =
    let v = width_len x.0 + length x.1 in
    let spelled = package_bytes x.0 v in
    let size : length spelled ≡ width_len x.0 = length-package_bytes x.0 v in
    let split : code ≡ w.before ++ ((spelled ++ x.1) ++ (x.2 ++ w.behind)) =
    w.text ∙ ap (λ (b : List ℕ). w.before ++ (b ++ w.behind)) s.0.parts ∙ ap (λ (b : List ℕ). w.before ++ b) (append_assoc (spelled ++ x.1) x.2 w.behind) in
    let there : code ≡ w.before ++ (spelled ++ (x.1 ++ (x.2 ++ w.behind))) =
    split ∙ ap (λ (b : List ℕ). w.before ++ b) (append_assoc spelled x.1 (x.2 ++ w.behind)) in
    let again : code ≡ (w.before ++ spelled) ++ (x.1 ++ (x.2 ++ w.behind)) = there ∙ sym (append_assoc w.before spelled (x.1 ++ (x.2 ++ w.behind))) in
    let long : length bytes ≡ (length spelled + length x.1) + length x.2 =
    ap length s.0.parts ∙ length-append (spelled ++ x.1) x.2 ∙ ap (λ n. n + length x.2) (length-append spelled x.1) in
    let is : LengthThere code at x.0 v =
    record { fits = s.1; there = record { before = w.before; behind = x.1 ++ (x.2 ++ w.behind); whole = there; offset = sym w.offset } } in
    record {
      before = w.before ++ spelled;
      behind = x.2 ++ w.behind;
      text = again;
      offset = length-append w.before spelled ∙ omega (arith, w.offset, size);
      place = omega (arith, w.place, long, size);
      is_end = inr (at, x.0, v, is, omega (arith, w.place, long, size), omega (arith, width_some x.0));
      fits = s.2;
    }

-- a text at the front of the bytes stands in the code
pub text_there : (code : List ℕ) (at end : ℕ) (bytes text rest : List ℕ) → Within code at end bytes
    → bytes ≡ text ++ rest → StandsThere code at text
text_there code at end bytes text rest w e =
    record {
      before = w.before;
      behind = rest ++ w.behind;
      whole = w.text ∙ ap (λ (b : List ℕ). w.before ++ (b ++ w.behind)) e ∙ ap (λ (b : List ℕ). w.before ++ b) (append_assoc text rest w.behind);
      offset = sym w.offset;
    }

get_there : (before : List ℕ) (b : ℕ) (rest : List ℕ) → slice_get (before ++ (b ∷ rest)) (length before) ≡ Some b
get_there [] b rest = refl
get_there (x ∷ before) b rest = get_there before b rest

-- so does its first byte
pub byte_there : (code : List ℕ) (at end b : ℕ) (rest : List ℕ) → Within code at end (b ∷ rest)
    → slice_get code at ≡ Some b
byte_there code at end b rest w =
    ap (λ (c : List ℕ). slice_get c at) w.text
    ∙ ap (λ (n : ℕ). slice_get (w.before ++ (b ∷ (rest ++ w.behind))) n) (sym w.offset)
    ∙ get_there w.before b (rest ++ w.behind)

-- the bytes are the span of the code from their offset on
pub slice_there : (code : List ℕ) (at end : ℕ) (bytes : List ℕ) → Within code at end bytes
    → slice_of code at (length bytes) ≡ bytes
slice_there code at end bytes w =
    ap (λ (c : List ℕ). slice_of c at (length bytes)) w.text
    ∙ ap (λ (c : List ℕ). take (length bytes) c) (drop_at w.before (bytes ++ w.behind) at w.offset)
    ∙ take_at bytes w.behind (length bytes) refl

pub span_inside : (code : List ℕ) (at end : ℕ) (bytes : List ℕ) → Within code at end bytes → end ≤ length code
span_inside code at end bytes w =
    let room : length code ≡ length w.before + (length bytes + length w.behind) =
    ap length w.text ∙ length-append w.before (bytes ++ w.behind) ∙ ap (λ n. length w.before + n) (length-append bytes w.behind) in
    omega (arith, room, w.offset, w.place)

-- ---- faults

pub end_there : (code : List ℕ) (at end : ℕ) (bytes : List ℕ) → Within code at end bytes → IsEnd code end end
end_there code at end bytes w = subst (λ (n : ℕ). IsEnd code n end) w.place (later code at (length bytes) end w.is_end)

pub truncated_placed : (arity : Arities) (code : List ℕ) (at end : ℕ) (bytes : List ℕ) (d : CodeFault)
    → Within code at end bytes → d ≡ faults.Truncated end
    → StandsAt arity code d
truncated_placed arity code at end bytes d w e = subst (StandsAt arity code) (sym e) (end_there code at end bytes w)

pub offset_is : (code : List ℕ) (at end : ℕ) (bytes : List ℕ) → Within code at end bytes → end - length bytes ≡ at
offset_is code at end bytes w = omega (arith, w.place)

pub length_placed : (arity : Arities) (code : List ℕ) (at end : ℕ) (bytes : List ℕ) (d : CodeFault)
    → Within code at end bytes → LengthFault end bytes d
    → StandsAt arity code d
length_placed arity code at end bytes d w (inl e) = truncated_placed arity code at end bytes d w e
length_placed arity code at end bytes d w (inr (lead, rest, text, bits, e)) =
    let here : Within code at end (lead ∷ rest) = subst (Within code at end) text w in
    let place = offset_is code at end bytes w in
    subst (StandsAt arity code) (sym (e ∙ ap (λ n. faults.PkgBits n) place)) (lead, byte_there code at end lead rest here, bits)

pub past_placed : (arity : Arities) (code : List ℕ) (at end : ℕ) (bytes : List ℕ) (d : CodeFault)
    → Within code at end bytes → PastFault end bytes d
    → StandsAt arity code d
past_placed arity code at end bytes d w f =
    let t = f.is_length in
    let there : LengthThere code at f.width f.value =
    record { fits = t.1; there = text_there code at end bytes (package_bytes f.width f.value) f.rest w t.0.parts } in
    let long : length bytes ≡ width_len f.width + length f.rest =
    ap length t.0.parts ∙ length-append (package_bytes f.width f.value) f.rest ∙ ap (λ n. n + length f.rest) (length-package_bytes f.width f.value) in
    let place = offset_is code at end bytes w in
    let past : (f.value < width_len f.width) ⊎ ((e : ℕ) × IsEnd code at e × (at < e) × (e < at + f.value)) =
    elim f.past [
      | inl less ↦ inl less
      | inr short ↦ inr (end, w.is_end, omega (arith, long, w.place, width_some f.width), omega (arith, short, long, w.place))
    ] in
    subst (StandsAt arity code) (sym (f.fault ∙ ap (λ n. faults.PkgPast n) place)) (f.width, f.value, there, past)

pub name_placed : (arity : Arities) (code : List ℕ) (at end : ℕ) (bytes : List ℕ) (d : CodeFault)
    → Within code at end bytes → NameFault end bytes d
    → StandsAt arity code d
name_placed arity code at end bytes d w (inl e) = truncated_placed arity code at end bytes d w e
name_placed arity code at end bytes d w (inr (front, b, behind, text, is, e)) =
    let rest_fits : IsBytes (b ∷ behind) = fits_behind front (b ∷ behind) (subst IsBytes text w.fits) in
    let here : Within code (at + length front) end (b ∷ behind) =
    onward code at end bytes front (b ∷ behind) w (record { parts = text; rest_fits = rest_fits }) in
    let place = offset_is code (at + length front) end (b ∷ behind) here in
    subst (StandsAt arity code) (sym (e ∙ ap (λ n. faults.BadName n) place)) (b, byte_there code (at + length front) end b behind here, is)
  where
    fits_behind : (front rest : List ℕ) → IsBytes (front ++ rest) → IsBytes rest
    fits_behind [] rest h = h
    fits_behind (x ∷ front) rest h = fits_behind front rest (λ i. h (suc i))
