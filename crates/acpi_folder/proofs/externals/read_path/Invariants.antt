use Rattle.acpi_folder.proofs.Common.{length}
use Rattle.acpi_folder.proofs.Counts.{IsRead}
use Rattle.acpi_folder.proofs.externals.read_path.Given as goal

abbrev pub invariant-loop-rest : goal.invariant-loop-rest
invariant-loop-rest l = IsRead l.text l.segs.items l.rest l.lead

abbrev pub decreases-loop-rest : goal.decreases-loop-rest
decreases-loop-rest l = length l.rest
