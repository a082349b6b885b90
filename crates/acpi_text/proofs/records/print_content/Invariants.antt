use Rattle.acpi_text.proofs.Common.{take, flat_map, Prints, spaced_byte}
use Rattle.acpi_text.proofs.records.print_content.Given as goal

abbrev pub invariant-loop-byte : goal.invariant-loop-byte
invariant-loop-byte g l = Prints g.W.Write.contents l.initial.out l.out (flat_map spaced_byte (take l.byte-index l.content))
