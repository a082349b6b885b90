use Rattle.acpi_folder.proofs.Common.{length, map, vec_len, string_bytes, lines_of}
use Rattle.acpi_folder.proofs.Turns.{AreMapped}
use Rattle.acpi_folder.proofs.map.read_lines.Given as goal

abbrev pub invariant-loop-rest : goal.invariant-loop-rest
invariant-loop-rest l = AreMapped (map string_bytes l.names) (lines_of l.text) l.lines.items (vec_len l.lines) (lines_of l.rest)

abbrev pub decreases-loop-rest : goal.decreases-loop-rest
decreases-loop-rest l = length l.rest
