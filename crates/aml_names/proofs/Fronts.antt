-- Fronts of paths: what two have in common, and that it is the most.
use Rattle.std.specs.Prelude.{nat_eq}
use Rattle.std.proofs.Common.{◌≡◌, ℕ, ◌+◌, ◌≤◌, Bool, true, false, List, ◌++◌, length, take, drop}
use Rattle.std.proofs.Common.{refl, sym, ap, ◌∙◌, arith}
use Rattle.std.proofs.lemmas.Bool.{eq-eqb, ne_eqb, false≢true}
use Rattle.std.proofs.lemmas.List.{take-append-drop, take-take, drop-take, take_all}
use Rattle.std.proofs.lemmas.Map.Views.{tells_apart}
use Rattle.std.specs.Cmp.{tied_itself}
use Rattle.std.specs.Ordering.{eq_by_cmp, is_eq}
use Rattle.aml_names.specs.declared.segments.Seg.{Seg}
use Rattle.aml_names.specs.Paths.{path_cmp, exact_paths, paths_total}

-- no longer front of both is the same
abbrev pub IsMost : List Seg → List Seg → ℕ → Type 0
IsMost xs ys k = (n : ℕ) → n ≤ length xs → n ≤ length ys → take n xs ≡ take n ys → n ≤ k

-- a longer front
pub take_on : (k n : ℕ) (xs : List Seg) → take (k + n) xs ≡ take k xs ++ take n (drop k xs)
take_on k n xs = sym (take-append-drop k (take (k + n) xs)) ∙ (λ i. take-take k (k + n) xs (omega arith) i ++ drop-take k n xs i)

-- paths of different lengths differ
pub apart_by : (a b : List Seg) → (length a ≡ length b → ⊥) → nat_eq (length a) (length b) ≡ eq_by_cmp path_cmp a b
apart_by a b differ = ne_eqb (length a) (length b) differ ∙ by (eq_by_cmp path_cmp a b) refl
  where
    by : (x : Bool) → x ≡ eq_by_cmp path_cmp a b → false ≡ x
    by false e = refl
    by true e = absurd (differ (ap length (tells_apart exact_paths a b (sym e))))

-- and others are the same where all of them is in common
pub same_by : (k : ℕ) (a b : List Seg) → k ≤ length a → length a ≡ length b → take k a ≡ take k b → IsMost a b k
    → nat_eq k (length a) ≡ eq_by_cmp path_cmp a b
same_by k a b within even begun most = by (eq_by_cmp path_cmp a b) refl
  where
    by : (x : Bool) → eq_by_cmp path_cmp a b ≡ x → nat_eq k (length a) ≡ x
    by true e = eq-eqb k (length a)
        (omega (arith, within, most (length a) (omega arith) (omega (arith, even)) (ap (take (length a)) (tells_apart exact_paths a b e))))
    by false e = ne_eqb k (length a) (λ here.
        let same : a ≡ b = sym (take_all k a (omega (arith, here))) ∙ begun ∙ take_all k b (omega (arith, here, even)) in
        false≢true (sym e ∙ ap (eq_by_cmp path_cmp a) (sym same) ∙ ap is_eq (tied_itself paths_total a)))
