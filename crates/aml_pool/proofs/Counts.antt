-- Counting in lists, and totals over lists.
use Rattle.std.proofs.Common.{◌≡◌, ◌≢◌, ℕ, zero, suc, ◌+◌, ◌<◌, ◌≤◌, List, [], ◌∷◌, ◌++◌, set, map, Bool, sym, refl, ap}
use Rattle.std.proofs.Common.{◌∙◌, arith, eq-eqb, ne_eqb}
use Rattle.std.specs.Prelude.{All, if◌then◌else◌, flat_map}
use Rattle.std.proofs.lemmas.List.Elements.{All-cons}
use mathlib.Core.Logic.{dite}
use native.Mathlib.Decide.{ℕ_discrete, dec_lt}
use mathlib.Core.Option.{some, some-injective, some-ne-none}
use lib.ListN.{get_elem?}
use Rattle.aml_pool.specs.Counting.{same, times, once_below, total}

pub times-append : (x : ℕ) (xs ys : List ℕ) → times x (xs ++ ys) ≡ times x xs + times x ys
times-append x [] ys = omega arith
times-append x (y ∷ xs) ys = let h = times-append x xs ys in omega arith

module _ {A : Type 0} where
  pub total_set : (f : A → ℕ) (xs : List A) (i : ℕ) (a b : A) → get_elem? xs i ≡ some a
      → total f (set xs i b) + f a ≡ total f xs + f b
  total_set f [] i a b e = absurd (some-ne-none a (sym e))
  total_set f (x ∷ xs) zero a b e = let is : f x ≡ f a = ap f (some-injective x a e) in omega arith
  total_set f (x ∷ xs) (suc i) a b e = let h = total_set f xs i a b e in omega arith

  pub total_more : (f : A → ℕ) (xs : List A) (b : A) → total f (xs ++ b ∷ []) ≡ total f xs + f b
  total_more f [] b = omega arith
  total_more f (x ∷ xs) b = let h = total_more f xs b in omega arith

  pub total_le : (f g : A → ℕ) (xs : List A) → ((i : ℕ) (a : A) → get_elem? xs i ≡ some a → f a ≤ g a)
      → total f xs ≤ total g xs
  total_le f g [] h = omega arith
  total_le f g (x ∷ xs) h = let a = h 0 x refl in let b = total_le f g xs (λ i a e. h (suc i) a e) in omega arith

  pub total_at : (f : A → ℕ) (xs : List A) (i : ℕ) (a : A) → get_elem? xs i ≡ some a → f a ≤ total f xs
  total_at f [] i a e = absurd (some-ne-none a (sym e))
  total_at f (x ∷ xs) zero a e = let is : f x ≡ f a = ap f (some-injective x a e) in omega arith
  total_at f (x ∷ xs) (suc i) a e = let h = total_at f xs i a e in omega arith

  pub total-map : {B : Type 0} (f : B → ℕ) (g : A → B) (xs : List A) → total f (map g xs) ≡ total (λ a. f (g a)) xs
  total-map f g [] = refl
  total-map f g (x ∷ xs) = ap (λ n. f (g x) + n) (total-map f g xs)

  -- how often x stands in the lists, joined to one
  pub times-flat_map : (x : ℕ) (f : A → List ℕ) (xs : List A) → times x (flat_map f xs) ≡ total (λ a. times x (f a)) xs
  times-flat_map x f [] = refl
  times-flat_map x f (y ∷ ys) = times-append x (f y) (flat_map f ys) ∙ ap (λ n. times x (f y) + n) (times-flat_map x f ys)

  -- where g is nothing in all, so is f, which only those with some g have
  pub total_none : (f g : A → ℕ) (xs : List A) → total g xs ≡ 0
      → ((i : ℕ) (a : A) → get_elem? xs i ≡ some a → g a ≡ 0 → f a ≡ 0) → total f xs ≡ 0
  total_none f g [] z h = refl
  total_none f g (x ∷ xs) z h = let a = h 0 x refl (omega arith) in let b = total_none f g xs (omega arith) (λ i a e. h (suc i) a e) in omega arith

  -- who has all of g has all of f
  pub total_only : (f g : A → ℕ) (xs : List A) (i : ℕ) (a : A) → get_elem? xs i ≡ some a → g a ≡ total g xs
      → ((i : ℕ) (a : A) → get_elem? xs i ≡ some a → g a ≡ 0 → f a ≡ 0) → total f xs ≡ f a
  total_only f g [] i a e all h = absurd (some-ne-none a (sym e))
  total_only f g (x ∷ xs) zero a e all h =
      let is : f x ≡ f a = ap f (some-injective x a e) in
      let has : g x ≡ g a = ap g (some-injective x a e) in
      let none = total_none f g xs (omega arith) (λ i b at. h (suc i) b at) in omega arith
  total_only f g (x ∷ xs) (suc i) a e all h =
      let part = total_at g xs i a e in
      let none = h 0 x refl (omega arith) in
      let rest = total_only f g xs i a e (omega arith) (λ i b at. h (suc i) b at) in omega arith

abbrev one_if : Bool → ℕ
one_if b = if b then 1 else 0

pub yes_one : (x y : ℕ) → x ≡ y → same x y ≡ 1
yes_one x y e = ap (λ b. one_if b) (eq-eqb x y e)

pub not_one : (x y : ℕ) → x ≢ y → same x y ≡ 0
not_one x y e = ap (λ b. one_if b) (ne_eqb x y e)

pub below_one : (x n : ℕ) → x < n → once_below x n ≡ 1
below_one x n l = grind arith

pub above_one : (x n : ℕ) → n ≤ x → once_below x n ≡ 0
above_one x n l = grind arith

pub once_below-le : (x n : ℕ) → once_below x n ≤ 1
once_below-le x n = dite (dec_lt x n) (λ l. omega (arith, below_one x n l)) (λ l. omega (arith, above_one x n (omega arith)))

-- one number more
pub once_below-more : (x n : ℕ) → once_below x (n + 1) ≡ once_below x n + times x (n ∷ [])
once_below-more x n = dite (ℕ_discrete x n)
    (λ e. omega (arith, yes_one x n e, below_one x (n + 1) (omega arith), above_one x n (omega arith)))
    (λ ne. dite (dec_lt x n)
    (λ l. omega (arith, not_one x n ne, below_one x (n + 1) (omega arith), below_one x n l))
    (λ l. omega (arith, not_one x n ne, above_one x (n + 1) (omega arith), above_one x n (omega arith))))

-- what holds of each number that stands in the list holds of each member
pub all_that_stand : (P : ℕ → Type 0) (xs : List ℕ) → ((x : ℕ) → 0 < times x xs → P x) → All P xs
all_that_stand P [] h = λ k d l. absurd (omega arith)
all_that_stand P (y ∷ ys) h = All-cons P y ys (h y (omega (arith, yes_one y y refl))) (all_that_stand P ys (λ x s. h x (omega arith)))

-- a number above all others stands once
pub one_more : (xs : List ℕ) (n : ℕ) → ((x : ℕ) → times x xs ≤ 1) → ((x : ℕ) → 0 < times x xs → x < n) → (x : ℕ)
    → times x (xs ++ n ∷ []) ≤ 1
one_more xs n once low x =
    let both = times-append x xs (n ∷ []) in
    dite (ℕ_discrete x n)
    (λ e. dite (ℕ_discrete (times x xs) 0) (λ z. omega (arith, yes_one x n e)) (λ some. let l = low x (omega arith) in absurd (omega arith)))
    (λ ne. let o = once x in omega (arith, not_one x n ne))
