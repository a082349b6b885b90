use Rattle.acpi_text.proofs.Common.{take, flat_map, reverse, Prints, hex2}
use Rattle.acpi_text.proofs.fields.print_reversed.Given as goal

abbrev pub invariant-loop-done : goal.invariant-loop-done
invariant-loop-done g l = Prints g.W.Write.contents l.initial.out l.out (flat_map hex2 (take l.done (reverse l.bytes)))
