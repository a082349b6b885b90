use Rattle.std.proofs.Common.{◌≡◌, drop}
use Rattle.std.specs.List.{find}
use Rattle.aml_namespace.specs.Known.{path_at}
use Rattle.aml_walk.specs.Units.{is_unit}
use Rattle.aml_walk.proofs.units.first_unit.Given as goal

abbrev pub invariant-loop-unit : goal.invariant-loop-unit
invariant-loop-unit l = find (is_unit (path_at l.space l.scope) l.path) (drop l.unit-index l.units) ≡ find (is_unit (path_at l.space l.scope) l.path) l.units
