use Rattle.acpi_text.proofs.Common.{word, prints_then}
use Rattle.acpi_text.specs.Dumps.{entry_text}
use Rattle.acpi_text.proofs.content.print_entry_text.Goals as goal

pub returns : goal.returns
unfolding word entry_text
returns g c =
    let bytes = prints_then _ _ _ _ _ _ c.put.ensures c.print_reversed.ensures in
    rw (← c.little_endian.ensures) (prints_then _ _ _ _ _ _ bytes c.print_owner.ensures)
