use Rattle.std.proofs.Common.{rules}
use Rattle.acpi_tables.proofs.addresses.Rsdt.entry.Goals as goal

pub returns : goal.returns
returns c = search rules
