use Rattle.acpi_text.proofs.Common.{get_or_default, flat_map-map, prints_turn, prints_end, field_view, field_text}
use Rattle.acpi_text.proofs.Common.{fields_text}
use Rattle.acpi_text.proofs.fields.print_fields.Goals as goal

pub loop-field-preserved : goal.loop-field-preserved
loop-field-preserved g c =
    let fields = c.args.fields.now in
    prints_turn g.W.Write.contents c.args.out.now c.loop-field.out c.print_field.new.out
    (λ f. field_text c.args.before.now c.args.behind.now c.args.bytes.now (field_view f)) fields c.loop-field.field-index _ c.loop-field-test.true
    (get_or_default fields c.loop-field.field-index _ _ c.loop-field-test.true) c.loop-field.invariant c.print_field.ensures

pub returns : goal.returns
unfolding fields_text
returns g c =
    let text = field_text c.args.before.now c.args.behind.now c.args.bytes.now in
    rw (flat_map-map text field_view c.args.fields.now)
    (prints_end g.W.Write.contents c.args.out.now c.loop-field.out (λ f. text (field_view f)) c.args.fields.now
    c.loop-field.field-index c.loop-field-test.false c.loop-field.invariant)
