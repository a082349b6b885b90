use Rattle.std.proofs.Common.{rules}
use Rattle.acpi_tables.proofs.by_chain.list_of.Goals as goal

pub returns-else-xsdt-eq0 : goal.returns-else-xsdt-eq0
returns-else-xsdt-eq0 c = search rules
