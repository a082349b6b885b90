use Rattle.acpi_folder.proofs.Common.{length, vec_len, lines_of}
use Rattle.acpi_folder.proofs.Pairs.{AreRead}
use Rattle.acpi_folder.proofs.externals.parse_externals.Given as goal

abbrev pub invariant-loop-rest : goal.invariant-loop-rest
invariant-loop-rest l = AreRead (lines_of l.text) l.given.items (vec_len l.given) (lines_of l.rest)

abbrev pub decreases-loop-rest : goal.decreases-loop-rest
decreases-loop-rest l = length l.rest
