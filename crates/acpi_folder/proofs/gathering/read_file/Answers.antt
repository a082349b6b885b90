use Rattle.acpi_folder.proofs.Common.{rules}
use Rattle.acpi_folder.proofs.gathering.read_file.Goals as goal

-- Without this line a wrong limit isn't refused before the prover's own limit of steps.
pub returns-in-Ok-clause-read : goal.returns-in-Ok-clause-read
returns-in-Ok-clause-read c d = search rules
