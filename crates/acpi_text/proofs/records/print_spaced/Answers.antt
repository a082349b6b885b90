use Rattle.acpi_text.proofs.Common.{word, prints_then, spaced_byte}
use Rattle.acpi_text.proofs.records.print_spaced.Goals as goal

pub returns : goal.returns
unfolding word spaced_byte
returns g c = prints_then _ _ _ _ _ _ c.put.ensures c.print_hex2.ensures
