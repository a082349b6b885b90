use Rattle.std.proofs.Common.{take}
use Rattle.aml_set.specs.Methods.{methods_in}
use Rattle.acpidis_c.specs.Contents.{method_text, method_value}
use Rattle.acpidis_c.proofs.Listing.{AreFirst}
use Rattle.acpidis_c.proofs.values.methods_of.Given as goal

abbrev pub invariant-loop-method : goal.invariant-loop-method
invariant-loop-method l =
    AreFirst method_text method_value (methods_in l.space (take l.method-index l.methods)) l.items.items l.texts.items
