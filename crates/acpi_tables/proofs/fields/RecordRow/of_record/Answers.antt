use Rattle.acpi_tables.proofs.Common.{◌≡◌, Bool, Option, Some, None, option_map, Bor, nat_eq, ◌&&◌, find, length, refl}
use Rattle.acpi_tables.proofs.Common.{ap, ◌∙◌}
use Rattle.acpi_tables.specs.Madt.{Row, kind_of, row_of, row_view}
use Rattle.acpi_tables.specs.declared.fields.RecordRow.{RecordRow}
use Rattle.acpi_tables.proofs.Values.{find-map}
use Rattle.acpi_tables.proofs.fields.RecordRow.of_record.Goals as goal

viewed : (row : Option (Bor RecordRow))
    → option_map (λ r. row_view r.now) row ≡ option_map row_view (option_map (λ r. r.now) row)
viewed None = refl
viewed (Some r) = refl

pub returns-clause-row : goal.returns-clause-row
unfolding row_of
returns-clause-row c =
    let passes : Row → Bool = λ r. nat_eq (kind_of c.args.bytes.now) r.kind && nat_eq (length c.args.bytes.now) r.long in
    viewed c.row_among.result
    ∙ ap (option_map row_view) (c.row_among.ensures.first ∙ ap (λ kind. find (λ r. nat_eq kind r.kind && nat_eq (length c.args.bytes.now) r.length)
    c.of_madt.result.now) c.u8_at.ensures)
    ∙ find-map row_view passes c.of_madt.result.now
    ∙ ap (find passes) c.of_madt.ensures.rows
