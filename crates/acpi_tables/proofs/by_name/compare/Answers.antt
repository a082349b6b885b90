use Rattle.std.proofs.Common.{rules}
use Rattle.acpi_tables.proofs.by_name.compare.Goals as goal

pub returns : goal.returns
returns c = search rules
