use Rattle.acpi_text.proofs.Common.{length, ◌-◌, flat_map, Prints, WalksTo, record_line}
use Rattle.acpi_text.proofs.records.print_records.Given as goal

abbrev pub invariant-loop-at : goal.invariant-loop-at
invariant-loop-at g l = (walk : WalksTo l.table l.at)
    × Prints g.W.Write.contents l.initial.out l.out (flat_map record_line walk.records)

abbrev pub decreases-loop-at : goal.decreases-loop-at
decreases-loop-at g l = length l.table - l.at
