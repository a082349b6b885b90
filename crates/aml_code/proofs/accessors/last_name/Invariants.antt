use Rattle.std.proofs.Common.{◌≡◌, drop, None}
use Rattle.std.specs.Option.{option_copied}
use Rattle.aml_code.specs.View.{parts_view}
use Rattle.aml_code.specs.Lawful.{last_label}
use Rattle.aml_code.proofs.accessors.last_name.Given as goal

abbrev pub invariant-loop-part : goal.invariant-loop-part
invariant-loop-part l = last_label (option_copied l.found) (parts_view (drop l.part-index l.parts)) ≡ last_label None (parts_view l.parts)
