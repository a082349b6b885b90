use Rattle.acpi_text.proofs.Common.{take, flat_map, Prints, dump_lines}
use Rattle.acpi_text.proofs.dumps.print_dumps.Given as goal

abbrev pub invariant-loop-dump : goal.invariant-loop-dump
invariant-loop-dump g l = Prints g.W.Write.contents l.initial.out l.out (flat_map (dump_lines l.dumps) (take l.dump-index l.dumps))
