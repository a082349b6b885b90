use Rattle.acpi_tables.proofs.Common.{ℕ, ◌<◌, bytes_of}
use Rattle.acpi_tables.specs.Dumps.{HoldsDump}
use Rattle.acpi_tables.proofs.order.check_dumps.Given as goal

abbrev pub invariant-loop-index : goal.invariant-loop-index
invariant-loop-index l = (k : ℕ) → k < l.index → HoldsDump l.any_sum (bytes_of l.dumps k)
