-- What an open set has, and what each call does to it.
use Rattle.std.specs.Prelude.{⊤, ◌≤◌, ◌<◌, ◌≡◌, ◌⊎◌, ℕ, Bool, false, List, [], ◌∷◌, ◌++◌, length, None, Some}
use Rattle.std.specs.Prelude.{Result, Ok, Err}
use Rattle.acpi_folder.specs.Map.{lines_of}
use Rattle.acpi_folder.specs.Externals.{AreGiven, RefusesExternals}
use Rattle.acpi_folder.specs.declared.externals.ExternalsFault.TheVariants as counts
use Rattle.acpi_tables.specs.Dumps.{most_bytes}
use Rattle.acpi_tables.specs.Order.{most_dumps}
use Rattle.acpi_tables.specs.declared.dump.Dump.{Dump}
use Rattle.acpidis.specs.Endings.{IsOutput}
use Rattle.acpidis.specs.Meaning.{Meaning, Means}
use Rattle.acpidis.specs.Refusals.{IsWant}
use Rattle.acpidis.specs.declared.faults.RunFault.{RunFault}
use Rattle.acpidis.specs.declared.faults.RunFault.TheVariants as ends
use Rattle.acpidis_c.specs.Contents.{AreContents, RefusesContents}
use Rattle.acpidis_c.specs.declared.code.Fault.{Fault}
use Rattle.acpidis_c.specs.declared.code.Fault.TheVariants as faults
use Rattle.acpidis_c.specs.declared.contents.Contents.{Contents}
use Rattle.acpidis_c.specs.declared.state.Flags.{Flags}
use Rattle.acpidis_c.specs.declared.state.Ran.{Ran}
use Rattle.acpidis_c.specs.declared.state.State.{State}

-- a set without dumps, with no option, which has not run
pub record IsNew (s : State) : Type 0 where
  pub dumps : s.dumps.items ≡ []
  pub any_sum : s.options.any_sum ≡ false
  pub any_run : s.options.any_run ≡ false
  pub unknown_zero : s.options.unknown_zero ≡ false
  pub externals : s.options.externals.items ≡ []
  pub ran : s.ran ≡ None
  pub contents : s.contents ≡ None

-- the dump stands behind the others
pub record HasAdded (before : State) (dump : Dump) (after : State) : Type 0 where
  pub dumps : after.dumps.items ≡ before.dumps.items ++ (dump ∷ [])
  pub options : after.options ≡ before.options
  pub ran : after.ran ≡ None
  pub contents : after.contents ≡ None

-- these flags are set, and nothing else
pub record HasFlags (before : State) (flags : Flags) (after : State) : Type 0 where
  pub dumps : after.dumps ≡ before.dumps
  pub any_sum : after.options.any_sum ≡ flags.any_sum
  pub any_run : after.options.any_run ≡ flags.any_run
  pub unknown_zero : after.options.unknown_zero ≡ flags.unknown_zero
  pub externals : after.options.externals ≡ before.options.externals
  pub ran : after.ran ≡ None
  pub contents : after.contents ≡ None

-- the counts are those of the lines of this text
pub record HasCounts (before : State) (text : List ℕ) (after : State) : Type 0 where
  pub dumps : after.dumps ≡ before.dumps
  pub any_sum : after.options.any_sum ≡ before.options.any_sum
  pub any_run : after.options.any_run ≡ before.options.any_run
  pub unknown_zero : after.options.unknown_zero ≡ before.options.unknown_zero
  pub externals : AreGiven (lines_of text) after.options.externals.items
  pub ran : after.ran ≡ None
  pub contents : after.contents ≡ None

-- nothing changed
pub record IsSame (before after : State) : Type 0 where
  pub dumps : after.dumps.items ≡ before.dumps.items
  pub options : after.options ≡ before.options
  pub ran : after.ran ≡ before.ran
  pub contents : after.contents ≡ before.contents

-- Why a call does nothing. Want of memory says nothing of what it was given.
abbrev pub RefusesCount : State → Fault → Type 0
RefusesCount s faults.TooManyTables = most_dumps ≤ length s.dumps.items
RefusesCount s faults.NoMemory = ⊤
RefusesCount s _ = ⊥

abbrev pub RefusesCounts : List ℕ → Fault → Type 0
RefusesCounts text faults.TooLong = most_bytes < length text
RefusesCounts text (faults.BadLine line) = RefusesExternals text (counts.BadLine line)
RefusesCounts text faults.NoMemory = ⊤
RefusesCounts text _ = ⊥

abbrev pub IsNoMemory : Fault → Type 0
IsNoMemory fault = fault ≡ faults.NoMemory

-- What comes of a run: with status 0 or 3 the text of the listing that the dumps mean, which have no other, and no
-- other status; with 1 no text, and the dumps mean no listing.
abbrev pub IsRunOf : State → Bool → Ran → Type 0
IsRunOf s check ran = (ran.check ≡ check)
    × (IsOutput s.dumps.items s.options check ran.status ran.text.items
    ⊎ ((ran.status ≡ 1) × (ran.text.items ≡ []) × ((k : Meaning) → Means s.dumps.items s.options k → ⊥)))

-- the status of a run that ended so, where no memory was refused
abbrev pub Settles : Result ℕ RunFault → ℕ → Type 0
Settles (Ok ended) status = status ≡ ended
Settles (Err (ends.Refused refusal)) status = (status ≡ 1) × (IsWant refusal → ⊥)
Settles (Err ends.Differs) status = status ≡ 1
Settles (Err (ends.Write fault)) status = ⊥

-- the set ran, and nothing else
pub record HasRun (before : State) (check : Bool) (after : State) : Type 0 where
  pub dumps : after.dumps ≡ before.dumps
  pub options : after.options ≡ before.options
  pub ran : (ran : Ran) × (after.ran ≡ Some ran) × IsRunOf before check ran
  pub contents : after.contents ≡ before.contents

-- what the set has was told, with the bodies of its methods if they were asked for, and nothing else was done
pub record HasListed (before : State) (bodies : Bool) (after : State) : Type 0 where
  pub dumps : after.dumps ≡ before.dumps
  pub options : after.options ≡ before.options
  pub ran : after.ran ≡ before.ran
  pub contents : (x : Contents) × (after.contents ≡ Some x) × AreContents bodies before.dumps.items before.options x

abbrev pub RefusesListed : State → Fault → Type 0
RefusesListed s fault = RefusesContents s.dumps.items s.options fault
