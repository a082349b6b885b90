-- From a path to the unit of a field list that it names, among terms that stand somewhere (ACPI 6.5, 19.6.48 and
-- 20.2.5.2).
use Rattle.std.specs.Prelude.{ℕ, suc, Bool, List, [], ◌∷◌, ◌++◌, Option, None}
use Rattle.std.specs.List.{find}
use Rattle.std.specs.Option.{option_map, option_or}
use Rattle.aml_names.specs.declared.segments.Seg.{Seg}
use Rattle.aml_namespace.specs.Namespace.{same_path}
use Rattle.aml_load.specs.Standing.{Standing}
use Rattle.aml_walk.specs.declared.fields.FieldUnit.{FieldUnit}
use Rattle.aml_walk.specs.declared.units.UnitPlace.{UnitPlace}
use Rattle.aml_walk.specs.Fields.{units_of}

-- whether a unit of a list in this scope has this path: the scope, and its segment
abbrev pub is_unit : List Seg → List Seg → FieldUnit → Bool
is_unit scope path u = same_path (scope ++ u.segment ∷ []) path

-- the first unit of a term that has this path
abbrev pub unit_in : Standing → List Seg → Option FieldUnit
unit_in s path = find (is_unit s.scope path) (units_of s.term)

-- the first unit of terms that has this path, with the place of its term, where the first of them has this place
abbrev pub unit_at : ℕ → List Standing → List Seg → Option UnitPlace
unit_at n [] path = None
unit_at n (s ∷ ss) path =
    option_or (option_map (λ u. record { term = n; unit = u }) (unit_in s path)) (unit_at (suc n) ss path)
