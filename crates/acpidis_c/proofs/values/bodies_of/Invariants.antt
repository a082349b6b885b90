use Rattle.std.proofs.Common.{take}
use Rattle.acpidis_c.specs.Contents.{kept_text, kept_value}
use Rattle.acpidis_c.proofs.Listing.{AreFirst}
use Rattle.acpidis_c.proofs.values.bodies_of.Given as goal

abbrev pub invariant-loop-body : goal.invariant-loop-body
invariant-loop-body l = AreFirst kept_text kept_value (take l.body-index l.bodies) l.items.items l.texts.items
