-- Which paths are not predefined, by their segments alone.
use Rattle.std.specs.Prelude.{◌==◌}
use Rattle.std.proofs.Common.{◌≡◌, ℕ, zero, suc, ◌≤◌, false, List, [], ◌∷◌, ◌++◌, length, take, None, refl, arith}
use Rattle.std.proofs.lemmas.Bool.{false≢true}
use Rattle.aml_names.specs.declared.segments.Seg.{Seg}
use Rattle.aml_namespace.specs.Predefined.{predefined}

-- no path of two segments or more is predefined
pub predefined_deep : (d : ℕ) (scope segment : List Seg) → (d ≡ 0 → ⊥) → d ≤ length scope → length segment ≡ 1
    → predefined (take d scope ++ segment) ≡ None
predefined_deep zero scope segment deep within one = absurd (deep refl)
predefined_deep (suc d) [] segment deep within one = absurd (omega (arith, within))
predefined_deep (suc d) (s ∷ scope) [] deep within one = absurd (omega (arith, one))
predefined_deep (suc d) (s ∷ scope) (t ∷ rest) deep within one = by (take d scope)
  where
    by : (front : List Seg) → predefined (s ∷ (front ++ t ∷ rest)) ≡ None
    by [] = refl
    by (u ∷ front) = refl

-- nor is one of two parts that have segments both
pub predefined_parts : (front own : List Seg) → false ≡ (length front == 0) → false ≡ (length own == 0)
    → predefined (front ++ own) ≡ None
predefined_parts [] own some more = absurd (false≢true some)
predefined_parts (s ∷ []) [] some more = absurd (false≢true more)
predefined_parts (s ∷ []) (t ∷ rest) some more = refl
predefined_parts (s ∷ t ∷ front) own some more = refl
