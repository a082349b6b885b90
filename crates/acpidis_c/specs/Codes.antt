-- The numbers by which C knows how a call ended.
use Rattle.std.specs.Prelude.{ℕ, Result, Ok, Err}
use Rattle.acpi_folder.specs.declared.externals.ExternalsFault.{ExternalsFault}
use Rattle.acpi_folder.specs.declared.externals.ExternalsFault.TheVariants as counts
use Rattle.acpidis_c.specs.declared.code.Fault.{Fault}
use Rattle.acpidis_c.specs.declared.code.Fault.TheVariants as faults

abbrev pub fault_number : Fault → ℕ
fault_number faults.Closed = 1
fault_number faults.Open = 2
fault_number faults.NoMemory = 3
fault_number faults.BadName = 4
fault_number faults.TooManyTables = 5
fault_number faults.TooLong = 6
fault_number (faults.BadLine line) = 7
fault_number faults.NotRun = 8
fault_number faults.OutOfRange = 9
fault_number faults.Refused = 12

-- 0 where a call does what is asked
abbrev pub code_of : {A : Type 0} → Result A Fault → ℕ
code_of (Ok x) = 0
code_of (Err fault) = fault_number fault

-- the line that a fault is about, or 0
abbrev pub line_of : {A : Type 0} → Result A Fault → ℕ
line_of (Err (faults.BadLine line)) = line
line_of _ = 0

-- what is told of a text of counts
abbrev pub of_counts : ExternalsFault → Fault
of_counts (counts.BadLine line) = faults.BadLine line
of_counts counts.NoMemory = faults.NoMemory
