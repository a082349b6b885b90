-- There is at most one order. By names: two sorted lists in which each number stands as often are the same, by a total
-- order, and the SSDTs are sorted by one. By the chain: each step of it has one end.
use Rattle.acpi_tables.proofs.Common.{◌≡◌, ℕ, suc, ◌+◌, ◌<◌, Bool, true, false, List, [], ◌∷◌, length, get_or, nat_eq}
use Rattle.acpi_tables.proofs.Common.{cond, filter, MatchBool, refl, sym, ap, ◌∙◌, arith, count_by, ordering_then}
use Rattle.acpi_tables.proofs.Common.{ordering_reverse, is_lt, nat_cmp, true≢false, eqb-true, nat_tests, All-filter}
use Rattle.acpi_tables.proofs.Common.{filter_passes, sum_by-cons, length-filter, Dump, Ok, rank_cmp, chain_of}
use Rattle.acpi_tables.proofs.Common.{IsChained, IsNamed}
use Rattle.std.specs.Prelude.{Result}
use Rattle.std.specs.Cmp.{IsStrictWeakOrder}
use Rattle.std.specs.List.Sorted.{IsSortedBy}
use Rattle.std.specs.declared.cmp.Ordering.{Ordering}
use Rattle.std.specs.declared.cmp.Ordering.TheVariants.{Less, Equal, Greater}
use Rattle.std.specs.FinMap.{nat_cmp-IsAntisymmetric}
use Rattle.std.proofs.lemmas.List.Sorted.{sorted_far, sum_by-IsPermutation}
use Rattle.acpi_tables.specs.declared.faults.TableFault.{TableFault}
use Rattle.acpi_tables.proofs.Chains.{chained}
use Rattle.acpi_tables.proofs.Ranks.{ranks_below, rank_order, rank_total}

-- how often a number stands in a list
abbrev equals : ℕ → ℕ → Bool
equals x y = nat_eq y x

abbrev one_if : ℕ → ℕ → ℕ
one_if x y = cond (equals x y) 1 0

abbrev times : ℕ → List ℕ → ℕ
times x xs = count_by (equals x) xs

times-cons : (x y : ℕ) (xs : List ℕ) → times x (y ∷ xs) ≡ one_if x y + times x xs
times-cons x y xs = sum_by-cons (one_if x) y xs

times_first : (x : ℕ) (xs : List ℕ) → 0 < times x (x ∷ xs)
times_first x xs =
    let e : nat_eq x x ≡ true = grind (arith, nat_tests) in
    grind (arith, times-cons x x xs)

sorted_behind : (lt : ℕ → ℕ → Bool) (x : ℕ) (xs : List ℕ) → IsSortedBy lt (x ∷ xs) → IsSortedBy lt xs
sorted_behind lt x xs up k d low high =
    let next : suc k + 1 ≡ suc (k + 1) = omega arith in
    ap (λ n. lt (get_or (x ∷ xs) n d) (get_or xs k d)) (sym next) ∙ up (suc k) d (omega arith) (omega arith)

module _ (lt : ℕ → ℕ → Bool) (order : IsStrictWeakOrder lt) (tied : (x y : ℕ) → lt x y ≡ false → lt y x ≡ false → x ≡ y) where
  first_below : (x y : ℕ) (ys : List ℕ) → IsSortedBy lt (y ∷ ys) → 0 < times x (y ∷ ys) → lt x y ≡ false
  first_below x y ys up some =
      let inside : 0 < length (filter (equals x) (y ∷ ys)) = omega (arith, some, length-filter (equals x) (y ∷ ys)) in
      let here : get_or (filter (equals x) (y ∷ ys)) 0 0 ≡ x = eqb-true _ _ (filter_passes (equals x) (y ∷ ys) 0 0 inside) in
      let below = All-filter (equals x) (λ n. lt n y ≡ false) (y ∷ ys) (λ k d high. sorted_far lt order (y ∷ ys) up 0 k d (omega arith) high) 0 0 inside in
      ap (λ n. lt n y) (sym here) ∙ below

  sorted_unique : (xs ys : List ℕ) → IsSortedBy lt xs → IsSortedBy lt ys → ((x : ℕ) → times x xs ≡ times x ys) → xs ≡ ys
  sorted_unique [] [] up down same = refl
  sorted_unique [] (y ∷ ys) up down same = absurd (omega (arith, same y, times_first y ys))
  sorted_unique (x ∷ xs) [] up down same = absurd (omega (arith, same x, times_first x xs))
  sorted_unique (x ∷ xs) (y ∷ ys) up down same =
      let below = first_below x y ys down (omega (arith, same x, times_first x xs)) in
      let above = first_below y x xs up (omega (arith, same y, times_first y ys)) in
      let first = tied x y below above in
      let others = sorted_unique xs ys (sorted_behind lt x xs up) (sorted_behind lt y ys down)
      (λ z. omega (arith, same z, times-cons z x xs, times-cons z y ys, ap (one_if z) first)) in
      ap (λ n. n ∷ xs) first ∙ ap (λ l. y ∷ l) others

-- two indexes of which neither ranks below the other are one
last_equal : (a b : Ordering) → ordering_then a b ≡ Equal → b ≡ Equal
last_equal Equal b e = e
last_equal Less b e = cc
last_equal Greater b e = cc

neither : (a b : Ordering) → b ≡ ordering_reverse a → is_lt a ≡ false → is_lt b ≡ false → a ≡ Equal
neither Equal b e below above = refl
neither Less b e below above = absurd (true≢false below)
neither Greater b e below above = absurd (true≢false (ap is_lt (sym e) ∙ above))

rank_tied : (dumps : List Dump) (i j : ℕ) → ranks_below dumps i j ≡ false → ranks_below dumps j i ≡ false → i ≡ j
rank_tied dumps i j below above =
    let equal = neither (rank_cmp dumps i j) (rank_cmp dumps j i) ((rank_total dumps).antisymm j i) below above in
    nat_cmp-IsAntisymmetric i j (last_equal _ (nat_cmp i j) (last_equal _ _ equal))

named_unique : (dumps : List Dump) (d d' : ℕ) (s s' : List ℕ) → IsNamed dumps d s → IsNamed dumps d' s'
    → (d ≡ d') × (s ≡ s')
named_unique dumps d d' s s' a b = (
  cc (a.only, b.only),
  sorted_unique (ranks_below dumps) (rank_order dumps) (rank_tied dumps) s s' a.sorted b.sorted
      (λ x. sum_by-IsPermutation (one_if x) _ s a.all ∙ sym (sum_by-IsPermutation (one_if x) _ s' b.all)),
)

-- two orders that one chain gives are one
same_ok : (r : Result (ℕ × List ℕ) TableFault) (x x' : ℕ) (y y' : List ℕ) → r ≡ Ok (x, y) → r ≡ Ok (x', y')
    → (x ≡ x') × (y ≡ y')
same_ok r x x' y y' is is' = let pair : ◌≡◌ {A = ℕ × List ℕ} (x, y) (x', y') = cc in (ap (λ p. p.0) pair, ap (λ p. p.1) pair)

-- What the chain gives is a function of the dumps.
pub order_unique : (b : Bool) (dumps : List Dump) (d d' : ℕ) (s s' : List ℕ)
    → MatchBool b (IsChained dumps d s) (IsNamed dumps d s) → MatchBool b (IsChained dumps d' s') (IsNamed dumps d' s')
    → (d ≡ d') × (s ≡ s')
order_unique true dumps d d' s s' a b = same_ok (chain_of dumps) d d' s s' (chained dumps d s a) (chained dumps d' s' b)
order_unique false dumps d d' s s' a b = named_unique dumps d d' s s' a b
