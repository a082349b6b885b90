use Rattle.std.proofs.Common.{◌≡◌, drop, None}
use Rattle.aml_code.specs.View.{parts_view}
use Rattle.aml_code.specs.Lawful.{last_byte}
use Rattle.aml_code.proofs.accessors.last_byte.Given as goal

abbrev pub invariant-loop-part : goal.invariant-loop-part
invariant-loop-part l = last_byte l.found (parts_view (drop l.part-index l.parts)) ≡ last_byte None (parts_view l.parts)
