-- Segments are ordered as their numbers.
use Rattle.std.proofs.Common.{◌≡◌, ℕ, suc, ◌+◌, ◌*◌, ◌<◌, List, [], ◌∷◌, length, refl, sym, ap, ◌∙◌, arith}
use Rattle.std.specs.Int.{w32, from_be_bytes}
use Rattle.std.specs.Cmp.{ranks, nat_cmp_is}
use Rattle.std.specs.Cmp.Lexicographic.{slice_cmp}
use Rattle.std.specs.declared.cmp.Ordering.{Ordering}
use Rattle.std.specs.declared.cmp.Ordering.TheVariants.{Less, Equal, Greater}
use Rattle.aml_names.proofs.StepLaws.{IsBytes}
use Rattle.std.specs.Ordering.{nat_cmp, ordering_then, MatchOrdering}

-- one more byte behind two numbers
digit : (p q x y : ℕ) → x < 256 → y < 256
    → ordering_then (nat_cmp p q) (nat_cmp x y) ≡ nat_cmp (p * 256 + x) (q * 256 + y)
digit p q x y low high =
    nat_cmp_is (p * 256 + x) (q * 256 + y) (ordering_then (nat_cmp p q) (nat_cmp x y)) (by (nat_cmp p q) (nat_cmp x y) (ranks p q) (ranks x y))
  where
    by : (r s : Ordering) → MatchOrdering r (p < q) (p ≡ q) (q < p) → MatchOrdering s (x < y) (x ≡ y) (y < x)
        → MatchOrdering (ordering_then r s) (p * 256 + x < q * 256 + y) (p * 256 + x ≡ q * 256 + y) (q * 256 + y < p * 256 + x)
    by Less s pq xy = omega (arith, low, high, pq)
    by Equal Less pq xy = omega (arith, pq, xy)
    by Equal Equal pq xy = omega (arith, pq, xy)
    by Equal Greater pq xy = omega (arith, pq, xy)
    by Greater s pq xy = omega (arith, low, high, pq)

then_behind : (a b c : Ordering) → ordering_then a (ordering_then b c) ≡ ordering_then (ordering_then a b) c
then_behind Less b c = refl
then_behind Equal b c = refl
then_behind Greater b c = refl

then_equal : (a : Ordering) → ordering_then a Equal ≡ a
then_equal Less = refl
then_equal Equal = refl
then_equal Greater = refl

abbrev horner : ℕ → List ℕ → ℕ
horner p [] = p
horner p (x ∷ xs) = horner (p * 256 + x) xs

-- two lists of as many bytes, behind two numbers
in_order : (p q : ℕ) (xs ys : List ℕ) → length xs ≡ length ys → IsBytes xs → IsBytes ys
    → ordering_then (nat_cmp p q) (slice_cmp nat_cmp xs ys) ≡ nat_cmp (horner p xs) (horner q ys)
in_order p q [] [] long xb yb = then_equal (nat_cmp p q)
in_order p q [] (y ∷ ys) long xb yb = absurd (omega (arith, long))
in_order p q (x ∷ xs) [] long xb yb = absurd (omega (arith, long))
in_order p q (x ∷ xs) (y ∷ ys) long xb yb =
    then_behind (nat_cmp p q) (nat_cmp x y) (slice_cmp nat_cmp xs ys)
    ∙ ap (λ o. ordering_then o (slice_cmp nat_cmp xs ys)) (digit p q x y (xb 0) (yb 0))
    ∙ in_order (p * 256 + x) (q * 256 + y) xs ys (omega (arith, long)) (λ i. xb (suc i)) (λ i. yb (suc i))

read : (xs : List ℕ) → length xs ≡ 4 → from_be_bytes w32 xs ≡ horner 0 xs
read (a ∷ b ∷ c ∷ d ∷ []) long = omega arith
read xs long = absurd (omega (arith, long))

pub by_number : (xs ys : List ℕ) → length xs ≡ 4 → length ys ≡ 4 → IsBytes xs → IsBytes ys
    → nat_cmp (from_be_bytes w32 xs) (from_be_bytes w32 ys) ≡ slice_cmp nat_cmp xs ys
by_number xs ys four too xb yb =
    (λ i. nat_cmp (read xs four i) (read ys too i)) ∙ sym (in_order 0 0 xs ys (four ∙ sym too) xb yb)
