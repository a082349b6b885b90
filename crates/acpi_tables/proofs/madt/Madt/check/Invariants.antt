use Rattle.acpi_tables.proofs.Common.{length, ◌-◌}
use Rattle.acpi_tables.proofs.Cuts.{WalksTo}
use Rattle.acpi_tables.proofs.madt.Madt.check.Given as goal

abbrev pub invariant-loop-at : goal.invariant-loop-at
invariant-loop-at l = WalksTo l.table l.at

abbrev pub decreases-loop-at : goal.decreases-loop-at
decreases-loop-at l = length l.table - l.at
