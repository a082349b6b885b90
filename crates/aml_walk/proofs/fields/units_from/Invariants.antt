use Rattle.std.proofs.Common.{◌≡◌, ◌++◌, drop}
use Rattle.aml_code.specs.View.{fields_view}
use Rattle.aml_walk.specs.Fields.{units_from}
use Rattle.aml_walk.proofs.fields.units_from.Given as goal

abbrev pub invariant-loop-field : goal.invariant-loop-field
invariant-loop-field l =
    l.units.items ++ units_from l.bit (fields_view (drop l.field-index l.fields)) ≡ units_from 0 (fields_view l.fields)
