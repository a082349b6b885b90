use Rattle.acpi_tables.proofs.Common.{◌≡◌, length, map, take}
use Rattle.acpi_tables.specs.Bytes.{field_view, values_of}
use Rattle.acpi_tables.specs.declared.fields.TheConstants.{MOST_FIELDS}
use Rattle.acpi_tables.proofs.fields.RecordRow.values_in.Given as goal

abbrev pub invariant-loop-index : goal.invariant-loop-index
invariant-loop-index l = (length l.values ≡ MOST_FIELDS) × (take l.index l.values ≡ values_of l.bytes (map field_view (take l.index l.self.fields.now)))
