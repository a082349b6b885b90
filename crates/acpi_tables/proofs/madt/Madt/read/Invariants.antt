use Rattle.acpi_tables.proofs.Common.{length, ◌-◌}
use Rattle.acpi_tables.proofs.Cuts.{ReadsTo}
use Rattle.acpi_tables.proofs.madt.Madt.read.Given as goal

abbrev pub invariant-loop-at : goal.invariant-loop-at
invariant-loop-at l = ReadsTo (λ content. content.items) l.table l.at l.records.items

abbrev pub decreases-loop-at : goal.decreases-loop-at
decreases-loop-at l = length l.table - l.at
