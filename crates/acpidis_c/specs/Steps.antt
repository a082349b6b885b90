-- What the calls that change a set do.
use Rattle.std.specs.Prelude.{ℕ, Bool, List, Option, ◌⊎◌}
use Rattle.acpi_tables.specs.declared.dump.Dump.{Dump}
use Rattle.acpidis_c.specs.Dumps.{IsDumpOf, RefusesDump}
use Rattle.acpidis_c.specs.States.{HasAdded, HasFlags, RefusesCount}
use Rattle.acpidis_c.specs.declared.code.Fault.{Fault}
use Rattle.acpidis_c.specs.declared.state.State.{State}

-- a dump of this name, address and bytes stands behind the others
abbrev pub Adds : List ℕ → Option ℕ → List ℕ → State → State → Type 0
Adds name address bytes before after = (dump : Dump) × IsDumpOf name address bytes dump × HasAdded before dump after

-- or the name or the number of dumps is at fault
abbrev pub RefusesAdd : List ℕ → State → Fault → Type 0
RefusesAdd name s fault = RefusesDump name fault ⊎ RefusesCount s fault

-- these flags are set
abbrev pub Chooses : Bool → Bool → Bool → State → State → Type 0
Chooses any_sum any_run unknown_zero before after =
    HasFlags before (record { any_sum = any_sum; any_run = any_run; unknown_zero = unknown_zero }) after
