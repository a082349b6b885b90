use Rattle.asl_text.proofs.Common.{take, fields_view, Prints, field_lines}
use Rattle.asl_text.proofs.lines.print_fields.Given as goal

abbrev pub invariant-loop-field : goal.invariant-loop-field
invariant-loop-field g l = Prints g.W.Write.contents l.initial.out l.out (field_lines l.level (fields_view (take l.field-index l.fields)))
