use Rattle.acpi_tables.proofs.Common.{rules}
unfoldable use Rattle.acpi_tables.specs.Bytes.{number_at}
use Rattle.acpi_tables.proofs.addresses.address_at.Goals as goal

pub returns : goal.returns
unfolding number_at
returns c = search rules
