use Rattle.std.proofs.Common.{rules}
use Rattle.acpi_text.proofs.fields.print_field.Goals as goal

pub returns-in-Some : goal.returns-in-Some
returns-in-Some g c = search rules
