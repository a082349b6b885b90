-- Places of a shelf, free and taken: how many are free when it is new, after a value is filed, and when all are taken.
-- Each number was drawn once, so each value comes to a free place.
use Rattle.std.proofs.Common.{◌≡◌, ℕ, zero, suc, ◌+◌, ◌<◌, Option, Some, None, List, [], ◌∷◌, ◌++◌, map, length, set}
use Rattle.std.proofs.Common.{replicate, length-append, sym, refl, get_or, subst, ◌∙◌, ap, arith}
use Rattle.std.specs.Prelude.{slice_get, All}
use Rattle.std.proofs.lemmas.List.{map-append, get_or_append_left}
use Rattle.std.proofs.lemmas.Option.{slice_get_read}
use Rattle.std.proofs.Math.Seq.{get_or-append_seam}
use mathlib.Core.Logic.{dite}
use native.Mathlib.Decide.{ℕ_discrete, dec_lt}
use Rattle.aml_pool.specs.Counting.{same, times, once_below, vacant, free, AllGive}
use Rattle.aml_pool.specs.declared.shelf.ShelfFault.{ShelfFault}
use Rattle.aml_pool.specs.declared.shelf.ShelfFault.TheVariants.{Double, Stranger}
use Rattle.aml_pool.specs.Seats.{Refuses}
use Rattle.aml_pool.proofs.Counts.{yes_one, not_one, below_one, above_one, times-append}

same_suc : (m n : ℕ) → same (suc m) (suc n) ≡ same m n
same_suc m n = dite (ℕ_discrete m n) (λ e. yes_one (suc m) (suc n) (ap suc e) ∙ sym (yes_one m n e))
    (λ ne. not_one (suc m) (suc n) (λ h. ne (omega arith)) ∙ sym (not_one m n ne))

below_suc : (n count : ℕ) → once_below n count ≡ once_below (suc n) (suc count)
below_suc n count = dite (dec_lt n count) (λ l. below_one n count l ∙ sym (below_one (suc n) (suc count) (omega arith)))
    (λ l. above_one n count (omega arith) ∙ sym (above_one (suc n) (suc count) (omega arith)))

pub vacant-replicate : (D : Type 0) (n : ℕ) → vacant {D = D} (replicate n None) ≡ n
vacant-replicate D zero = refl
vacant-replicate D (suc n) = ap suc (vacant-replicate D n)

pub free-new : (D : Type 0) (count n : ℕ) → free {D = D} n (replicate count None) ≡ once_below n count
free-new D zero n = sym (above_one n 0 (omega arith))
free-new D (suc count) zero = sym (below_one 0 (suc count) (omega arith))
free-new D (suc count) (suc n) = free-new D count n ∙ below_suc n count

module _ {D : Type 0} where
  pub vacant-append : (a b : List (Option D)) → vacant (a ++ b) ≡ vacant a + vacant b
  vacant-append [] b = omega arith
  vacant-append (None ∷ a) b = let h = vacant-append a b in omega arith
  vacant-append (Some d ∷ a) b = vacant-append a b

  -- a taken place is not free
  pub free-taken : (slots : List (Option D)) (n : ℕ) (d : D) → slice_get slots n ≡ Some (Some d) → free n slots ≡ 0
  free-taken [] n d e = refl
  free-taken (None ∷ slots) zero d e = absurd (cc)
  free-taken (Some x ∷ slots) zero d e = refl
  free-taken (o ∷ slots) (suc n) d e = free-taken slots n d e

  pub free-vacant : (slots : List (Option D)) (n : ℕ) → slice_get slots n ≡ Some None → free n slots ≡ 1
  free-vacant [] n e = absurd (cc)
  free-vacant (None ∷ slots) zero e = refl
  free-vacant (Some x ∷ slots) zero e = absurd (cc)
  free-vacant (o ∷ slots) (suc n) e = free-vacant slots n e

  -- one place less is free
  pub vacant-filed : (slots : List (Option D)) (n : ℕ) (d : D) → free n slots ≡ 1
      → vacant (set slots n (Some d)) + 1 ≡ vacant slots
  vacant-filed [] n d e = absurd (omega arith)
  vacant-filed (None ∷ slots) zero d e = omega arith
  vacant-filed (Some x ∷ slots) zero d e = absurd (omega arith)
  vacant-filed (None ∷ slots) (suc n) d e = let h = vacant-filed slots n d e in omega arith
  vacant-filed (Some x ∷ slots) (suc n) d e = vacant-filed slots n d e

  -- a free place that a value comes to
  pub place-filed : (slots : List (Option D)) (n : ℕ) (o : Option D) (d : D) → n < length slots → o ≡ get_or slots n o
      → o ≡ None
      → (slice_get slots n ≡ Some None) × (vacant (set slots n (Some d)) + 1 ≡ vacant slots)
  place-filed slots n o d inside is none =
      let at : slice_get slots n ≡ Some None = slice_get_read slots _ _ _ refl inside is ∙ ap (λ p. Some p) none in
      (at, vacant-filed slots n d (free-vacant slots n at))

  pub free-filed : (slots : List (Option D)) (n m : ℕ) (d : D) → free n slots ≡ 1
      → free m (set slots n (Some d)) + same m n ≡ free m slots
  free-filed [] n m d e = absurd (omega arith)
  free-filed (None ∷ slots) zero zero d e = refl
  free-filed (None ∷ slots) zero (suc m) d e = omega (arith, not_one (suc m) 0 (λ h. omega arith))
  free-filed (Some x ∷ slots) zero m d e = absurd (omega arith)
  free-filed (None ∷ slots) (suc n) zero d e = omega (arith, not_one 0 (suc n) (λ h. omega arith))
  free-filed (Some x ∷ slots) (suc n) zero d e = omega (arith, not_one 0 (suc n) (λ h. omega arith))
  free-filed (o ∷ slots) (suc n) (suc m) d e = let h = free-filed slots n m d e in let s = same_suc m n in omega arith

  -- no place is free
  pub vacant-none : (slots : List (Option D)) → ((n : ℕ) → free n slots ≡ 0) → vacant slots ≡ 0
  vacant-none [] h = refl
  vacant-none (None ∷ slots) h = let z = h 0 in absurd (omega arith)
  vacant-none (Some x ∷ slots) h = vacant-none slots (λ n. h (suc n))

  pub free-place : (slots : List (Option D)) (n : ℕ) → free n slots ≡ 1 → n < length slots
  free-place [] n e = absurd (omega arith)
  free-place (o ∷ slots) zero e = omega arith
  free-place (None ∷ slots) (suc n) e = let h = free-place slots n e in omega arith
  free-place (Some x ∷ slots) (suc n) e = let h = free-place slots n e in omega arith

  pub gives-filed : (gives : ℕ → D → Type 0) (slots : List (Option D)) (n : ℕ) (d : D) → AllGive gives slots → gives n d
      → AllGive gives (set slots n (Some d))
  gives-filed gives [] n d all one m x e = all m x e
  gives-filed gives (o ∷ slots) zero d all one zero x e = subst (gives 0) (some_some d x e) one
    where
      some_some : (a b : D) → Some (Some a) ≡ Some (Some b) → a ≡ b
      some_some a b e = cc
  gives-filed gives (o ∷ slots) zero d all one (suc m) x e = all (suc m) x e
  gives-filed gives (o ∷ slots) (suc n) d all one zero x e = all 0 x e
  gives-filed gives (o ∷ slots) (suc n) d all one (suc m) x e = gives-filed (λ k. gives (suc k)) slots n d (λ k y a. all (suc k) y a) one m x e

  pub refuses-taken : (slots : List (Option D)) (n : ℕ) (value : D) (e : ShelfFault D) → Refuses slots n value e
      → free n slots ≡ 0
  refuses-taken slots n value (Double d) r = free-taken slots n r.1 r.2
  refuses-taken slots n value (Stranger d) r = dite (ℕ_discrete (free n slots) 0) (λ z. z)
      (λ ne. let h = free-place slots n (free-one slots n ne) in let past = r.1 in absurd (omega arith))
    where
      free-one : (slots : List (Option D)) (n : ℕ) → ¬ (free n slots ≡ 0) → free n slots ≡ 1
      free-one [] n ne = absurd (ne refl)
      free-one (None ∷ slots) zero ne = refl
      free-one (Some x ∷ slots) zero ne = absurd (ne refl)
      free-one (o ∷ slots) (suc n) ne = free-one slots n ne

  pub times-last : (rest : List (ℕ × D)) (n : ℕ) (d : D) (x : ℕ)
      → times x (map (λ p. p.0) (rest ++ (n, d) ∷ [])) ≡ times x (map (λ p. p.0) rest) + same x n
  times-last rest n d x = ap (times x) (map-append (λ p. p.0) rest ((n, d) ∷ [])) ∙ (let h = times-append x (map (λ p. p.0) rest) (n ∷ []) in omega arith)

  -- what holds of each of a list and one more
  pub all-first : (P : ℕ × D → Type 0) (rest : List (ℕ × D)) (last : ℕ × D) → All P (rest ++ last ∷ []) → All P rest
  all-first P rest last h k e l = subst P (get_or_append_left rest (last ∷ []) e k l) (h k e (let n = length-append rest (last ∷ []) in omega arith))

  pub all-last : (P : ℕ × D → Type 0) (rest : List (ℕ × D)) (last : ℕ × D) → All P (rest ++ last ∷ []) → P last
  all-last P rest last h = subst P (get_or-append_seam rest last [] last) (h (length rest) last (let n = length-append rest (last ∷ []) in omega arith))

  pub gives-none : (gives : ℕ → D → Type 0) (count : ℕ) → AllGive gives (replicate count None)
  gives-none gives zero n d e = absurd (cc)
  gives-none gives (suc count) zero d e = absurd (cc)
  gives-none gives (suc count) (suc n) d e = gives-none (λ k. gives (suc k)) count n d e
