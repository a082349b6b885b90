use Rattle.acpi_text.proofs.Common.{take, flat_map, Prints, field_view, field_text}
use Rattle.acpi_text.proofs.fields.print_fields.Given as goal

abbrev pub invariant-loop-field : goal.invariant-loop-field
invariant-loop-field g l = Prints g.W.Write.contents l.initial.out l.out
    (flat_map (λ f. field_text l.before l.behind l.bytes (field_view f)) (take l.field-index l.fields))
