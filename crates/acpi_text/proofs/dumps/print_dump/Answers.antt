use Rattle.acpi_text.proofs.Common.{arith, prints_then, dump_lines}
use Rattle.acpi_text.proofs.dumps.print_dump.Goals as goal

pub returns : goal.returns
unfolding dump_lines
returns g c = grind (arith, prints_then)
