-- A dump as C gives it.
use Rattle.std.specs.Prelude.{◌≡◌, ◌+◌, ℕ, List, Option, take, string_bytes, ⊤}
use Rattle.acpi_tables.specs.Dumps.{most_bytes}
use Rattle.acpi_tables.specs.declared.dump.Dump.{Dump}
use Rattle.std.specs.Str.{IsUtf8}
use Rattle.acpidis_c.specs.declared.code.Fault.{Fault}
use Rattle.acpidis_c.specs.declared.code.Fault.TheVariants as faults

-- a dump of this name, address and bytes, of which the first are kept: one more than a dump may have
pub record IsDumpOf (name : List ℕ) (address : Option ℕ) (bytes : List ℕ) (dump : Dump) : Type 0 where
  pub named : string_bytes dump.name ≡ name
  pub placed : dump.address ≡ address
  pub kept : dump.bytes.items ≡ take (most_bytes + 1) bytes

-- why there is none
abbrev pub RefusesDump : List ℕ → Fault → Type 0
RefusesDump name faults.BadName = IsUtf8 name → ⊥
RefusesDump name faults.NoMemory = ⊤
RefusesDump name _ = ⊥
