-- How often a number stands in a list, and lists that hold each number below some n once.
use Rattle.std.specs.Prelude.{◌≡◌, ℕ, ◌+◌, List, [], ◌∷◌, ◌==◌, nat_lt, if◌then◌else◌, zero, suc, Option, Some, None}
use Rattle.std.specs.Prelude.{slice_get}

-- 1 for the same number, else 0
abbrev pub same : ℕ → ℕ → ℕ
same x y = if x == y then 1 else 0

-- how often x stands in the list
abbrev pub times : ℕ → List ℕ → ℕ
times x [] = 0
times x (y ∷ ys) = same x y + times x ys

-- 1 for a number below n, else 0
abbrev pub once_below : ℕ → ℕ → ℕ
once_below x n = if nat_lt x n then 1 else 0

-- Each number below n stands once in the list, and nothing else stands there. Of several lists, joined to one: each
-- number stands in exactly one of them
abbrev pub IsOnce : List ℕ → ℕ → Type 0
IsOnce numbers n = (x : ℕ) → times x numbers ≡ once_below x n

-- the sum of f over the list
abbrev pub total : {A : Type 0} → (A → ℕ) → List A → ℕ
total f [] = 0
total f (x ∷ xs) = f x + total f xs

-- ---- Places for results, each free or taken: what a shelf is seen as.

-- how many places are free
abbrev pub vacant : {D : Type 0} → List (Option D) → ℕ
vacant [] = 0
vacant (None ∷ places) = suc (vacant places)
vacant (Some d ∷ places) = vacant places

-- 1 where the number's place is free, else 0
abbrev pub free : {D : Type 0} → ℕ → List (Option D) → ℕ
free n [] = 0
free zero (None ∷ places) = 1
free zero (Some d ∷ places) = 0
free (suc n) (o ∷ places) = free n places

-- what stands at a number is one of its results
abbrev pub AllGive : {D : Type 0} → (ℕ → D → Type 0) → List (Option D) → Type 0
AllGive {D} gives places = (n : ℕ) (d : D) → slice_get places n ≡ Some (Some d) → gives n d
