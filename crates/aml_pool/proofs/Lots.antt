-- Two lots in one, and the numbers that a loop has still to draw.
use Rattle.std.proofs.Common.{◌≡◌, ℕ, zero, suc, ◌+◌, ◌<◌, ◌≤◌, List, [], ◌∷◌, ◌++◌, max, sym, subst, ◌∙◌, ap₂}
use Rattle.std.proofs.Common.{length-append, arith}
use Rattle.std.specs.Prelude.{All, Vec, slice_index}
use Rattle.std.specs.Global.{Global}
use Rattle.std.specs.List.Sorted.{IsStrictlyIncreasing}
use Rattle.std.proofs.lemmas.List.{map-append}
use Rattle.std.proofs.lemmas.Grind.{flat_map-append}
use Rattle.std.proofs.lemmas.List.Elements.{All-append}
use Rattle.aml_pool.specs.Seats.{AreParts, all_of}

pub all_of-append : (drawn drawn2 : List (Vec ℕ Global)) → all_of (drawn ++ drawn2) ≡ all_of drawn ++ all_of drawn2
all_of-append drawn drawn2 = flat_map-append (λ v. v.items) drawn drawn2

pub parts_append : {D : Type 0} (gives : ℕ → D → Type 0) (m n : ℕ) (done done2 : List (ℕ × D)) (drawn drawn2 : List (Vec ℕ Global))
    → AreParts gives m done drawn → AreParts gives n done2 drawn2
    → AreParts gives (m + n) (done ++ done2) (drawn ++ drawn2)
parts_append gives m n done done2 drawn drawn2 a b = record {
  lists = length-append drawn drawn2 ∙ ap₂ ◌+◌ a.lists b.lists;
  ascending = All-append (λ v. IsStrictlyIncreasing v.items) drawn drawn2 a.ascending b.ascending;
  numbers = map-append (λ p. p.0) done done2 ∙ (ap₂ ◌++◌ a.numbers b.numbers ∙ sym (all_of-append drawn drawn2));
  results = All-append (λ p. gives p.0 p.1) done done2 a.results b.results;
}

-- the least number above all of the list
abbrev pub above : List ℕ → ℕ
above [] = 0
above (x ∷ xs) = max (x + 1) (above xs)

pub above-le : (n : ℕ) (xs : List ℕ) → All (λ x. x < n) xs → above xs ≤ n
above-le n [] h = omega arith
above-le n (x ∷ xs) h = let a = h 0 0 (omega arith) in let b = above-le n xs (λ k d l. h (suc k) d (omega arith)) in grind arith

pub above-more : (n : ℕ) (xs : List ℕ) → n < above (xs ++ n ∷ [])
above-more n [] = grind arith
above-more n (x ∷ xs) = let b = above-more n xs in grind arith

-- a list that rises, and then a number above all of it
pub increasing_more : (n : ℕ) (xs : List ℕ) → IsStrictlyIncreasing xs → All (λ x. x < n) xs
    → IsStrictlyIncreasing (xs ++ n ∷ [])
increasing_more n [] inc low k l = absurd (omega arith)
increasing_more n (x ∷ []) inc low zero l = low 0 0 (omega arith)
increasing_more n (x ∷ []) inc low (suc k) l = absurd (omega arith)
increasing_more n (x ∷ y ∷ ys) inc low zero l = inc 0 (omega arith)
increasing_more n (x ∷ y ∷ ys) inc low (suc k) l =
    let e : (j : ℕ) → suc j + 1 ≡ suc (j + 1) = λ j. omega arith in
    let all : List ℕ = x ∷ y ∷ ys in
    let tail = increasing_more n (y ∷ ys) (λ j m. subst (λ i. slice_index all (suc j) < slice_index all i) (e j) (inc (suc j) (omega arith)))
    (λ j d m. low (suc j) d (omega arith)) k (omega arith) in
    subst (λ i. slice_index (all ++ n ∷ []) (suc k) < slice_index (all ++ n ∷ []) i) (sym (e k)) tail
