-- What each step of reading a name answers (`Sound`): what it read has its form and stands in front of what it left,
-- and a fault is of a byte that can't stand in its place, or of bytes that end too early. Two steps are sound where
-- each is (`sound_then`), so this is one proof for each step, of what is read and of its faults.
use Rattle.std.proofs.Common.{◌≡◌, ℕ, Bool, true, false, List, [], ◌∷◌, ◌++◌, Result, Ok, Err, refl, sym, ap, subst}
use Rattle.std.proofs.Common.{◌∙◌, append_assoc, inl, inr}
use Rattle.std.proofs.lemmas.Bool.{cond_both, or_parts}
use Rattle.aml_names.specs.declared.faults.CodeFault.{CodeFault}
use Rattle.aml_names.specs.declared.segments.Seg.{Seg}
use Rattle.aml_names.specs.Names.{is_lead_char, is_name_char, IsNameSeg}
use Rattle.aml_names.specs.NameReading.{◌>>=◌, Left, passing_at, segment_at, NameFault}

-- what a step has read
abbrev pub Reads : List ℕ → List ℕ → Type 0
Reads bytes rest = (front : List ℕ) × (bytes ≡ front ++ rest)

abbrev pub Sound : {A : Type 0} → ℕ → List ℕ → (A → Type 0) → Result A CodeFault → Type 0
Sound end bytes Q (Ok x) = Q x
Sound end bytes Q (Err d) = NameFault end bytes d

pub sound_behind : {A : Type 0} (end : ℕ) (bytes rest : List ℕ) (Q : A → Type 0) (r : Result A CodeFault)
    → Reads bytes rest → Sound end rest Q r
    → Sound end bytes Q r
sound_behind end bytes rest Q (Ok x) read h = h
sound_behind end bytes rest Q (Err d) read h = elim h [
  | inl t ↦ inl t
  | inr t ↦
      inr (read.0 ++ t.0, t.1, t.2, read.1 ∙ ap (λ (x : List ℕ). read.0 ++ x) t.3 ∙ sym (append_assoc read.0 t.0 (t.1 ∷ t.2)), t.4, t.5)
]

pub sound_then : {A B : Type 0} (end : ℕ) (bytes : List ℕ) (Q : A × List ℕ → Type 0) (R : B → Type 0)
    → ((x : A × List ℕ) → Q x → Reads bytes x.1)
    → (r : Left A) (f : A × List ℕ → Result B CodeFault) → Sound end bytes Q r
    → ((x : A × List ℕ) → Q x → Sound end x.1 R (f x))
    → Sound end bytes R (r >>= f)
sound_then end bytes Q R reads (Ok x) f h next = sound_behind end bytes x.1 R (f x) (reads x h) (next x h)
sound_then end bytes Q R reads (Err d) f h next = h

-- a byte that passes a test
abbrev pub IsPassed : (ℕ → Bool) → List ℕ → ℕ × List ℕ → Type 0
IsPassed passes bytes x = (bytes ≡ x.0 ∷ x.1) × (passes x.0 ≡ true)

pub passed_reads : (passes : ℕ → Bool) (bytes : List ℕ) (x : ℕ × List ℕ) → IsPassed passes bytes x → Reads bytes x.1
passed_reads passes bytes x h = (x.0 ∷ [], h.0)

-- where a byte that the test refuses begins no segment
pub passing_sound : (passes : ℕ → Bool) → ((b : ℕ) → passes b ≡ false → is_lead_char b ≡ false)
    → (end : ℕ) (bytes : List ℕ)
    → Sound end bytes (IsPassed passes bytes) (passing_at passes end bytes)
passing_sound passes refuses end [] = inl refl
passing_sound passes refuses end (b ∷ bytes) =
    cond_both (passes b) _ _ (Sound end (b ∷ bytes) (IsPassed passes (b ∷ bytes))) (λ h. (refl, h)) (λ h. inr ([], b, bytes, refl, refuses b h, refl))

abbrev pub IsSegment : List ℕ → Seg × List ℕ → Type 0
IsSegment bytes x = (bytes ≡ x.0.0 ++ x.1) × IsNameSeg x.0.0

pub segment_sound : (end : ℕ) (bytes : List ℕ) → Sound end bytes (IsSegment bytes) (segment_at end bytes)
unfolding segment_at
segment_sound end bytes =
    first is_lead_char (λ b h. h) bytes _ (λ a ta. first is_name_char follows a.1 _ (λ b tb. first is_name_char follows b.1 _ (λ c tc.
    first is_name_char follows c.1 _ (λ d td. (
      ta.0 ∙ (λ i. a.0 ∷ (tb.0 ∙ (λ j. b.0 ∷ (tc.0 ∙ (λ k. c.0 ∷ td.0 k)) j)) i),
      (ta.1, tb.1, tc.1, td.1),
    )))))
  where
    first : (passes : ℕ → Bool) → ((b : ℕ) → passes b ≡ false → is_lead_char b ≡ false)
        → (at : List ℕ) (f : ℕ × List ℕ → Left Seg)
        → ((x : ℕ × List ℕ) → IsPassed passes at x → Sound end x.1 (IsSegment bytes) (f x))
        → Sound end at (IsSegment bytes) (passing_at passes end at >>= f)
    first passes refuses at f next =
        sound_then end at (IsPassed passes at) (IsSegment bytes) (passed_reads passes at) (passing_at passes end at) f
        (passing_sound passes refuses end at) next

    follows : (b : ℕ) → is_name_char b ≡ false → is_lead_char b ≡ false
    follows b h = (or_parts (is_lead_char b) _ h).0

pub segment_fault : (end : ℕ) (bytes : List ℕ) (d : CodeFault) → segment_at end bytes ≡ Err d → NameFault end bytes d
segment_fault end bytes d e = subst (Sound end bytes (IsSegment bytes)) e (segment_sound end bytes)
