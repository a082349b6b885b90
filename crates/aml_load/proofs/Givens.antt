-- The entries of what the user gives.
use Rattle.std.proofs.Common.{◌≡◌, ℕ, zero, suc, ◌+◌, ◌<◌, List, [], ◌∷◌, ◌++◌, length, take, get_or, refl, sym, ap}
use Rattle.std.proofs.Common.{◌∙◌, arith}
use Rattle.aml_names.specs.declared.segments.Seg.{Seg}
use Rattle.aml_namespace.specs.Namespace.{Givens, given, given_entries}
use Rattle.aml_load.specs.Loading.{methods_of}

-- they have no methods
pub no_methods : (gs : Givens) → methods_of (given_entries gs) ≡ []
no_methods [] = refl
no_methods (g ∷ gs) = no_methods gs

-- the entries of one more
pub one_more : (gs : Givens) (i : ℕ) (g : List Seg × ℕ) → i < length gs → g ≡ get_or gs i g
    → given_entries (take (i + 1) gs) ≡ given_entries (take i gs) ++ given g.0 g.1 ∷ []
one_more [] i g within is = absurd (omega (arith, within))
one_more (x ∷ gs) zero g within is = ap (λ (y : List Seg × ℕ). given y.0 y.1 ∷ []) (sym is)
one_more (x ∷ gs) (suc i) g within is =
    ap (λ n. given_entries (take n (x ∷ gs))) {x = suc i + 1} {y = suc (i + 1)} (omega arith)
    ∙ ap (λ es. given x.0 x.1 ∷ es) (one_more gs i g (omega (arith, within)) is)
