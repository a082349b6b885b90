use Rattle.acpi_tables.proofs.Common.{◌≡◌, ◌%◌, sum, take}
use Rattle.acpi_tables.proofs.bytes.sum.Given as goal

abbrev pub invariant-loop-byte : goal.invariant-loop-byte
invariant-loop-byte l = l.total ≡ sum (take l.byte-index l.bytes) % 256
