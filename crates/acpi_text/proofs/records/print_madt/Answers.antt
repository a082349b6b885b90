use Rattle.acpi_text.proofs.Common.{word, prints_then, madt_lines}
use Rattle.acpi_text.proofs.records.print_madt.Goals as goal

pub returns : goal.returns
unfolding word madt_lines
returns g c =
    let flags = prints_then _ _ _ _ _ _ c.put_hex8.ensures c.put_hex8-2.ensures in
    let line = prints_then _ _ _ _ _ _ flags c.put.ensures in
    rw (← c.u32_at.ensures, ← c.u32_at-2.ensures) (prints_then _ _ _ _ _ _ line c.print_records.ensures)
