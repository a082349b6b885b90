-- A package length that is read is the one that is spelled, and one that is spelled is read again.
use Rattle.std.specs.Prelude.{slice_get, Some}
use Rattle.std.proofs.Common.{◌≡◌, ℕ, zero, suc, ◌+◌, ◌-◌, ◌*◌, ◌/◌, ◌%◌, ◌^◌, ◌<◌, ◌≤◌, true, false, eqb, ltb, List}
use Rattle.std.proofs.Common.{[], ◌∷◌, ◌++◌, length, take, drop, Result}
use Rattle.std.proofs.Common.{Ok, Err, refl, sym, ap, subst, ◌∙◌, ◌⊎◌, arith, inl, inr}
use Rattle.std.proofs.lemmas.Bool.{ltb-false, le-ltb, ltb-true, eqb-true, eqb-false, eq-eqb, ne_eqb}
use Rattle.std.proofs.lemmas.List.{take_at, drop_at, take-append-drop, length-append, length-take}
use Rattle.std.proofs.Math.Nat.{pow-succ', pow-le-pow_right}
use Rattle.aml_names.specs.declared.faults.CodeFault.{CodeFault}
use Rattle.aml_names.specs.declared.faults.CodeFault.TheVariants as faults
use Rattle.aml_names.specs.NameReading.{◌>>=◌, byte_at}
use Rattle.aml_names.proofs.StepLaws.{ok_is, err_is, bind_then, err_then, cond_then, IsBytes, IsBytes-drop}
use Rattle.aml_names.proofs.StepLaws.{IsBytes-take, Takes, Takes-then, byte_takes, byte_fault}
use Rattle.aml_code.specs.declared.packages.PkgWidth.{PkgWidth}
use Rattle.aml_code.specs.declared.packages.PkgWidth.TheVariants as width
use Rattle.aml_code.specs.Packages.{following_bytes, width_of, width_len, little, package_bytes, FitsWidth, little_at}
use Rattle.aml_code.specs.Packages.{value_at, length_at, span_at, front_at}
use Rattle.aml_code.specs.Faults.{HasPkgBits, IsLengthFault}
use Rattle.aml_code.specs.Tree.{op, Parts, empty, opcode_bytes, encoding, parts_encoding}
use Rattle.aml_code.proofs.Answered.{answered, not_answered}

-- ---- numbers, the lowest byte first

pub power : (k : ℕ) → 256 ^ suc k ≡ 256 * 256 ^ k
power k = pow-succ' 256 k

pub little_takes : (k end : ℕ) (bytes : List ℕ) (n : ℕ) (rest : List ℕ) → IsBytes bytes
    → little_at k end bytes ≡ Ok (n, rest)
    → Takes bytes (little k n) rest × (n < 256 ^ k)
unfolding little_at
little_takes zero end bytes n rest fits e =
    subst (λ (p : ℕ × List ℕ). Takes bytes [] p.1 × (p.0 < 1)) (ok_is (0, bytes) (n, rest) e) (record { parts = refl; rest_fits = fits }, omega arith)
little_takes (suc k) end bytes n rest fits e =
    bind_then _ _ _ (n, rest) e (λ low h1 e1.
    answered (λ (p : ℕ × List ℕ). Takes bytes (little (suc k) p.0) p.1 × (p.0 < 256 ^ suc k)) _ _ (n, rest) e1 (λ high h2.
    let ta = byte_takes end bytes low.0 low.1 fits h1 in
    let tb = little_takes k end low.1 high.0 high.1 ta.0.rest_fits h2 in
    let value = low.0 + 256 * high.0 in
    let low_is : value % 256 ≡ low.0 = omega (arith, ta.1) in
    let high_is : value / 256 ≡ high.0 = omega (arith, ta.1) in
    let both = Takes-then bytes (low.0 ∷ []) low.1 (little k high.0) high.1 ta.0 tb.0 in
    let text : little (suc k) value ≡ low.0 ∷ little k high.0 = rw (low_is, high_is) refl in
    let below : value < 256 ^ suc k = omega (arith, power k, ta.1, tb.1) in
    (rw text both, below)))

pub little_again : (k end n : ℕ) (rest : List ℕ) → n < 256 ^ k → little_at k end (little k n ++ rest) ≡ Ok (n, rest)
unfolding little_at
little_again zero end n rest h = let none : 0 ≡ n = omega arith in ap (λ m. Ok (m, rest)) none
little_again (suc k) end n rest h =
    let less : n / 256 < 256 ^ k = omega (arith, power k) in
    let whole : n % 256 + 256 * (n / 256) ≡ n = omega arith in
    rw (little_again k end (n / 256) rest less) (ap (λ m. Ok (m, rest)) whole)

pub little_fault : (k end : ℕ) (bytes : List ℕ) (d : CodeFault) → little_at k end bytes ≡ Err d
    → d ≡ faults.Truncated end
unfolding little_at
little_fault zero end bytes d e = absurd cc
little_fault (suc k) end bytes d e = err_then _ _ _ d e (byte_fault end bytes d) (λ low h1 e1. little_fault k end low.1 d (not_answered _ _ d e1))

pub little_below : (k low high : ℕ) → 0 < k → low < 256 → high < 256 ^ (k - 1) → low + 256 * high < 256 ^ k
little_below zero low high p l h = absurd (omega arith)
little_below (suc k) low high p l h =
    let same : suc k - 1 ≡ k = omega arith in
    let less : high < 256 ^ k = subst (λ (m : ℕ). high < 256 ^ m) same h in
    omega (arith, power k, less)

-- ---- widths

pub following_of : (k : ℕ) → k < 4 → following_bytes (width_of k) ≡ k
following_of zero h = refl
following_of (suc zero) h = refl
following_of (suc (suc zero)) h = refl
following_of (suc (suc (suc zero))) h = refl
following_of (suc (suc (suc (suc k)))) h = absurd (omega arith)

pub width_again : (w : PkgWidth) → width_of (following_bytes w) ≡ w
width_again width.One = refl
width_again width.Two = refl
width_again width.Three = refl
width_again width.Four = refl

pub width_some : (w : PkgWidth) → 0 < width_len w
width_some w = omega arith

pub length-package_bytes : (w : PkgWidth) (v : ℕ) → length (package_bytes w v) ≡ width_len w
length-package_bytes width.One v = refl
length-package_bytes width.Two v = refl
length-package_bytes width.Three v = refl
length-package_bytes width.Four v = refl

-- the bytes of a term in front of its tail
pub front_length : (code : List ℕ) (o : ℕ) (w : PkgWidth) (ps : Parts)
    → length (encoding code (op o (Some w) ps empty)) ≡ length (opcode_bytes o) + (width_len w + length (parts_encoding code ps))
front_length code o w ps =
    let content = parts_encoding code ps ++ [] in
    let bytes = package_bytes w (width_len w + length content) in
    omega (
      arith,
      length-append (opcode_bytes o) (bytes ++ content),
      length-append bytes content,
      length-append (parts_encoding code ps) [],
      length-package_bytes w (width_len w + length content),
    )

-- ---- package lengths

-- a length and its room by the number of bytes behind the lead byte
abbrev spelled : ℕ → ℕ → List ℕ
spelled zero v = v % 64 ∷ []
spelled (suc k) v = (64 * suc k + v % 16) ∷ little (suc k) (v / 16)

abbrev FitsFollowing : ℕ → ℕ → Type 0
FitsFollowing zero v = v < 64
FitsFollowing (suc k) v = (k < 3) × (v < 16 * 256 ^ suc k)

spelled_is : (w : PkgWidth) (v : ℕ) → spelled (following_bytes w) v ≡ package_bytes w v
spelled_is width.One v = refl
spelled_is width.Two v = refl
spelled_is width.Three v = refl
spelled_is width.Four v = refl

fits_width : (w : PkgWidth) (v : ℕ) → FitsFollowing (following_bytes w) v → FitsWidth w v
fits_width width.One v fits = fits
fits_width width.Two v fits = fits.1
fits_width width.Three v fits = fits.1
fits_width width.Four v fits = fits.1

width_fits : (w : PkgWidth) (v : ℕ) → FitsWidth w v → FitsFollowing (following_bytes w) v
width_fits width.One v fits = fits
width_fits width.Two v fits = (omega arith, fits)
width_fits width.Three v fits = (omega arith, fits)
width_fits width.Four v fits = (omega arith, fits)

abbrev pub IsLength : List ℕ → PkgWidth → ℕ → List ℕ → Type 0
IsLength bytes w v rest = Takes bytes (package_bytes w v) rest × FitsWidth w v

one_byte : (lead : ℕ) (bytes : List ℕ) → lead / 64 ≡ 0 → IsBytes bytes → IsLength (lead ∷ bytes) width.One lead bytes
one_byte lead bytes p fits =
    let low : lead % 64 ≡ lead = omega arith in
    (record { parts = rw low refl; rest_fits = fits }, omega arith)

more_bytes : (k lead : ℕ) (bytes : List ℕ) (high : ℕ) (rest : List ℕ) → lead / 64 ≡ k → (k ≡ 0 → ⊥) → lead < 256
    → lead / 16 % 4 ≡ 0
    → Takes bytes (little k high) rest → high < 256 ^ k
    → Takes (lead ∷ bytes) (spelled k (lead % 16 + 16 * high)) rest × FitsFollowing k (lead % 16 + 16 * high)
more_bytes zero lead bytes high rest p q l zeros takes below = absurd (q refl)
more_bytes (suc k) lead bytes high rest p q l zeros takes below =
    let value = lead % 16 + 16 * high in
    let low : 64 * suc k + value % 16 ≡ lead = omega arith in
    let up : value / 16 ≡ high = omega arith in
    let small : value < 16 * 256 ^ suc k = omega arith in
    (record { parts = rw (low, up) (ap (λ (t : List ℕ). lead ∷ t) takes.parts); rest_fits = takes.rest_fits }, (omega arith, small))

value_takes : (at lead end : ℕ) (bytes : List ℕ) (x : (PkgWidth × ℕ) × List ℕ) → lead < 256 → IsBytes bytes
    → value_at at lead end bytes ≡ Ok x
    → IsLength (lead ∷ bytes) x.0.0 x.0.1 x.1
unfolding value_at
value_takes at lead end bytes x small fits e =
    let Q : (PkgWidth × ℕ) × List ℕ → Type 0 = λ y. IsLength (lead ∷ bytes) y.0.0 y.0.1 y.1 in
    cond_then _ (eqb (lead / 64) 0) _ _ _ e (λ h p. subst Q (ok_is _ x p) (one_byte lead bytes (eqb-true _ _ h) fits)) (λ h p.
    cond_then _ (ltb 0 (lead / 16 % 4)) _ _ _ p (λ g q. absurd cc) (λ g q.
    let zeros = ltb-false _ _ g in
    answered Q _ _ x q (λ high h1.
    let t = little_takes (lead / 64) end bytes high.0 high.1 fits h1 in
    let m = more_bytes (lead / 64) lead bytes high.0 high.1 refl (eqb-false _ _ h) small (omega arith) t.0 t.1 in
    let same : following_bytes (width_of (lead / 64)) ≡ lead / 64 = following_of (lead / 64) (omega arith) in
    let value = lead % 16 + 16 * high.0 in
    let wide = width_of (lead / 64) in
    let so = subst (λ (k : ℕ). Takes (lead ∷ bytes) (spelled k value) high.1 × FitsFollowing k value) (sym same) m in
    (subst (λ (b : List ℕ). Takes (lead ∷ bytes) b high.1) (spelled_is wide value) so.0, fits_width wide value so.1))))

pub length_takes : (end : ℕ) (bytes : List ℕ) (x : (PkgWidth × ℕ) × List ℕ) → IsBytes bytes → length_at end bytes ≡ Ok x
    → IsLength bytes x.0.0 x.0.1 x.1
unfolding length_at
length_takes end bytes x fits e =
    bind_then _ _ _ x e (λ lead h1 e1.
    let t = byte_takes end bytes lead.0 lead.1 fits h1 in
    subst (λ (b : List ℕ). IsLength b x.0.0 x.0.1 x.1) (sym t.0.parts) (value_takes (end - length bytes) lead.0 end lead.1 x t.1 t.0.rest_fits e1))

-- a length that is spelled, by its lead byte
record Headed (at k v end : ℕ) (rest : List ℕ) : Type 0 where
  pub lead : ℕ
  pub behind : List ℕ
  pub text : spelled k v ++ rest ≡ lead ∷ behind
  pub reads : value_at at lead end behind ≡ Ok ((width_of k, v), rest)

headed : (at k v end : ℕ) (rest : List ℕ) → FitsFollowing k v → Headed at k v end rest
unfolding value_at
headed at zero v end rest fits =
    let low : v % 64 ≡ v = omega arith in
    let short : eqb (v / 64) 0 ≡ true = eq-eqb _ _ (omega arith) in
    record { lead = v; behind = rest; text = rw low refl; reads = rw short refl }
headed at (suc k) v end rest fits =
    let lead = 64 * suc k + v % 16 in
    let width : lead / 64 ≡ suc k = omega (arith, fits.0) in
    let long : eqb (suc k) 0 ≡ false = ne_eqb _ _ (omega arith) in
    let zeros : ltb 0 (lead / 16 % 4) ≡ false = le-ltb _ _ (omega arith) in
    let low : lead % 16 ≡ v % 16 = omega arith in
    let whole : v % 16 + 16 * (v / 16) ≡ v = omega arith in
    let small : v / 16 < 256 ^ suc k = omega (arith, fits.1) in
    record {
      lead = lead;
      behind = little (suc k) (v / 16) ++ rest;
      text = refl;
      reads = rw (width, long, zeros, little_again (suc k) end (v / 16) rest small, low, whole) refl;
    }

pub length_again : (end : ℕ) (w : PkgWidth) (v : ℕ) (rest : List ℕ) → FitsWidth w v
    → length_at end (package_bytes w v ++ rest) ≡ Ok ((w, v), rest)
unfolding length_at
length_again end w v rest fits =
    let h = headed (end - length (package_bytes w v ++ rest)) (following_bytes w) v end rest (width_fits w v fits) in
    let goal : List ℕ → Result ((PkgWidth × ℕ) × List ℕ) CodeFault =
    λ b. byte_at end b >>= λ lead. value_at (end - length (package_bytes w v ++ rest)) lead.0 end lead.1 in
    ap (λ (b : List ℕ). goal (b ++ rest)) (sym (spelled_is w v)) ∙ ap goal h.text ∙ h.reads ∙ ap (λ (u : PkgWidth). Ok ((u, v), rest)) (width_again w)

-- ---- faults

-- a fault in a length: the end comes too early, or the lead byte has a bit set that has to be clear
abbrev pub LengthFault : ℕ → List ℕ → CodeFault → Type 0
LengthFault end bytes d =
    (d ≡ faults.Truncated end) ⊎ ((lead : ℕ) × (rest : List ℕ) × (bytes ≡ lead ∷ rest) × HasPkgBits lead × (d ≡ faults.PkgBits (end - length bytes)))

value_fault : (at lead end : ℕ) (bytes : List ℕ) (d : CodeFault) → value_at at lead end bytes ≡ Err d
    → (d ≡ faults.Truncated end) ⊎ (HasPkgBits lead × (d ≡ faults.PkgBits at))
unfolding value_at
value_fault at lead end bytes d e =
    cond_then _ (eqb (lead / 64) 0) _ _ _ e (λ h p. absurd cc) (λ h p.
    cond_then _ (ltb 0 (lead / 16 % 4)) _ _ _ p (λ g q.
    let long = eqb-false _ _ h in
    let set = ltb-true _ _ g in
    inr ((omega (arith, not_zero (lead / 64) long), set), sym (err_is {A = (PkgWidth × ℕ) × List ℕ} (faults.PkgBits at) d q)))
    (λ g q. inl (little_fault (lead / 64) end bytes d (not_answered _ _ d q))))
  where
    not_zero : (n : ℕ) → (n ≡ 0 → ⊥) → 0 < n
    not_zero zero h = absurd (h refl)
    not_zero (suc n) h = omega arith

pub length_fault : (end : ℕ) (bytes : List ℕ) (d : CodeFault) → length_at end bytes ≡ Err d → LengthFault end bytes d
unfolding length_at
length_fault end [] d e = inl (sym (err_is {A = (PkgWidth × ℕ) × List ℕ} (faults.Truncated end) d e))
length_fault end (lead ∷ rest) d e =
    elim (value_fault (end - length (lead ∷ rest)) lead end rest d e) [
      | inl t ↦ inl t
      | inr p ↦ inr (lead, rest, refl, p.0, p.1)
    ]

-- ---- packages

-- what a package takes: its length, which counts itself, and what the length covers
abbrev pub IsSpan : List ℕ → PkgWidth × List ℕ × List ℕ → Type 0
IsSpan bytes x = Takes bytes (package_bytes x.0 (width_len x.0 + length x.1) ++ x.1) x.2 × FitsWidth x.0 (width_len x.0 + length x.1) × IsBytes x.1

pub span_takes : (end : ℕ) (bytes : List ℕ) (x : PkgWidth × List ℕ × List ℕ) → IsBytes bytes → span_at end bytes ≡ Ok x
    → IsSpan bytes x
unfolding span_at
span_takes end bytes x fits e = bind_then _ _ _ x e (λ (l : (PkgWidth × ℕ) × List ℕ) h1 e1.
    let w = l.0.0 in
    let value = l.0.1 in
    let rest = l.1 in
    let n = value - width_len w in
    let made : PkgWidth × List ℕ × List ℕ = (w, take n rest, drop n rest) in
    let t = length_takes end bytes l fits h1 in
    cond_then _ (ltb value (width_len w)) _ _ _ e1 (λ g q. absurd cc) (λ g1 q1.
    cond_then _ (ltb (length rest) n) _ _ _ q1 (λ g q. absurd cc) (λ g2 q2.
    let own : width_len w ≤ value = ltb-false _ _ g1 in
    let room : n ≤ length rest = ltb-false _ _ g2 in
    let whole : width_len w + length (take n rest) ≡ value = omega (arith, length-take n rest) in
    let second : Takes rest (take n rest) (drop n rest) = record { parts = sym (take-append-drop n rest); rest_fits = IsBytes-drop n rest t.0.rest_fits } in
    let both = Takes-then bytes (package_bytes w value) rest (take n rest) (drop n rest) t.0 second in
    let spelled_so = subst (λ (v : ℕ). Takes bytes (package_bytes w v ++ take n rest) (drop n rest) × FitsWidth w v) (sym whole) (both, t.1) in
    subst (λ (y : PkgWidth × List ℕ × List ℕ). IsSpan bytes y) (ok_is made x q2) (spelled_so.0, spelled_so.1, IsBytes-take n rest t.0.rest_fits))))

pub span_again : (end : ℕ) (w : PkgWidth) (inside behind : List ℕ) → FitsWidth w (width_len w + length inside)
    → span_at end (package_bytes w (width_len w + length inside) ++ (inside ++ behind)) ≡ Ok (w, inside, behind)
unfolding span_at
span_again end w inside behind fits =
    let v = width_len w + length inside in
    let own : ltb v (width_len w) ≡ false = le-ltb _ _ (omega arith) in
    let n : v - width_len w ≡ length inside = omega arith in
    let room : ltb (length (inside ++ behind)) (length inside) ≡ false = le-ltb _ _ (omega (arith, length-append inside behind)) in
    rw (length_again end w v (inside ++ behind) fits, own, n, room, take_at inside behind (length inside) refl, drop_at inside behind (length inside) refl) refl

-- a fault of a package: of its length, or the length doesn't fit its place
pub record PastFault (end : ℕ) (bytes : List ℕ) (d : CodeFault) : Type 0 where
  pub width : PkgWidth
  pub value : ℕ
  pub rest : List ℕ
  pub is_length : IsLength bytes width value rest
  pub past : (value < width_len width) ⊎ (length rest < value - width_len width)
  pub fault : d ≡ faults.PkgPast (end - length bytes)

pub span_fault : (end : ℕ) (bytes : List ℕ) (d : CodeFault) → IsBytes bytes → span_at end bytes ≡ Err d
    → LengthFault end bytes d ⊎ PastFault end bytes d
unfolding span_at
span_fault end bytes d fits e = err_then _ _ _ d e (λ h. inl (length_fault end bytes d h)) (λ l h1 e1.
    let at = end - length bytes in
    let fault = err_is {A = PkgWidth × List ℕ × List ℕ} (faults.PkgPast at) d in
    let found : (l.0.1 < width_len l.0.0) ⊎ (length l.1 < l.0.1 - width_len l.0.0) → d ≡ faults.PkgPast at → PastFault end bytes d =
    λ past is. record { width = l.0.0; value = l.0.1; rest = l.1; is_length = length_takes end bytes l fits h1; past = past; fault = is } in
    cond_then _ (ltb l.0.1 (width_len l.0.0)) _ _ _ e1 (λ g q. inr (found (inl (ltb-true _ _ g)) (sym (fault q))))
    (λ g q. cond_then _ (ltb (length l.1) (l.0.1 - width_len l.0.0)) _ _ _ q (λ h r. inr (found (inr (ltb-true _ _ h)) (sym (fault r)))) (λ h r. absurd cc)))

-- ---- machine numbers

pub eight_bytes : (k : ℕ) → k ≤ 8 → 256 ^ k ≤ 18446744073709551616
eight_bytes k h = let below : 256 ^ k ≤ 256 ^ 8 = pow-le-pow_right (omega arith) h in omega (arith, below)

pub three_bytes : (k : ℕ) → k < 4 → 256 ^ k ≤ 16777216
three_bytes k h =
    let few : k ≤ 3 = omega (arith, h) in
    let below : 256 ^ k ≤ 256 ^ 3 = pow-le-pow_right (omega arith) few in
    omega (arith, below)

-- ---- the length at the front of the bytes

pub front_again : (bytes : List ℕ) (w : PkgWidth) (v : ℕ) (rest : List ℕ) → FitsWidth w v
    → bytes ≡ package_bytes w v ++ rest → front_at bytes ≡ Ok (w, v)
unfolding front_at
front_again bytes w v rest fits text =
    ap (λ r. r >>= λ l. Ok l.0) (ap (length_at (length bytes)) text ∙ length_again (length bytes) w v rest fits)

pub front_takes : (bytes : List ℕ) (x : PkgWidth × ℕ) → IsBytes bytes → front_at bytes ≡ Ok x
    → FitsWidth x.0 x.1 × ((rest : List ℕ) × (bytes ≡ package_bytes x.0 x.1 ++ rest))
unfolding front_at
front_takes bytes x fits e =
    answered (λ (y : PkgWidth × ℕ). FitsWidth y.0 y.1 × ((rest : List ℕ) × (bytes ≡ package_bytes y.0 y.1 ++ rest))) _ _ x e (λ l h.
    let t = length_takes (length bytes) bytes l fits h in (t.1, (l.1, t.0.parts)))

pub front_fault : (bytes : List ℕ) (d : CodeFault) → front_at bytes ≡ Err d → IsLengthFault bytes d
unfolding front_at
front_fault bytes d e =
    elim (length_fault (length bytes) bytes d (not_answered _ _ d e)) [
      | inl t ↦ subst (IsLengthFault bytes) (sym t) refl
      | inr p ↦
          let none : length bytes - length bytes ≡ 0 = omega arith in
          subst (IsLengthFault bytes) (sym (p.4 ∙ ap (λ n. faults.PkgBits n) none)) (p.0, ap (λ (b : List ℕ). slice_get b 0) p.2, p.3)
    ]

-- only one is spelled there
pub front_one : (bytes : List ℕ) (x : PkgWidth × ℕ) (w : PkgWidth) (v : ℕ) (rest : List ℕ) → front_at bytes ≡ Ok x
    → FitsWidth w v
    → bytes ≡ package_bytes w v ++ rest → (w ≡ x.0) × (v ≡ x.1)
front_one bytes x w v rest e fits text =
    let same = ok_is (w, v) x (sym (front_again bytes w v rest fits text) ∙ e) in
    (ap (λ (y : PkgWidth × ℕ). y.0) same, ap (λ (y : PkgWidth × ℕ). y.1) same)
