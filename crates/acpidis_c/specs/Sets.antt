-- A set as C holds it, and what a call does to it.
use Rattle.std.specs.Prelude.{◌≡◌, ◌⊎◌, ℕ, Option, Some, None, Result, Ok, Err}
use Rattle.acpidis_c.specs.Codes.{code_of, line_of}
use Rattle.acpidis_c.specs.declared.code.Fault.{Fault}
use Rattle.acpidis_c.specs.declared.code.Fault.TheVariants as faults
use Rattle.acpidis_c.specs.declared.handle.Set.{Set}
use Rattle.acpidis_c.specs.declared.state.State.{State}
use Rattle.acpidis_c.specs.States.{IsNew, IsSame}

-- its state, if it is open
abbrev pub state_of : Set → Option State
state_of set = set.held.state

-- A call on a set: an open one has the state that the call makes, or with a fault the one that it had; a closed one
-- stays closed.
abbrev pub Calls : (State → State → Type 0) → (State → Fault → Type 0) → Option State → Result (Unit {0}) Fault
    → Option State → Type 0
Calls Does Stops (Some s) (Ok x) after = (t : State) × (after ≡ Some t) × Does s t
Calls Does Stops (Some s) (Err fault) after = Stops s fault × ((t : State) × (after ≡ Some t) × IsSame s t)
Calls Does Stops None (Ok x) after = ⊥
Calls Does Stops None (Err fault) after = (fault ≡ faults.Closed) × (after ≡ None)

-- C has the code of how it ended.
abbrev pub CallsBy : (State → State → Type 0) → (State → Fault → Type 0) → Option State → ℕ → Option State → Type 0
CallsBy Does Stops before code after =
    (ended : Result (Unit {0}) Fault) × (code ≡ code_of ended) × Calls Does Stops before ended after

-- And the line that a fault is about.
abbrev pub CallsAt : (State → State → Type 0) → (State → Fault → Type 0) → Option State → ℕ → ℕ → Option State
    → Type 0
CallsAt Does Stops before code line after =
    (ended : Result (Unit {0}) Fault) × (code ≡ code_of ended) × (line ≡ line_of ended)
    × Calls Does Stops before ended after

-- A closed set is opened with a new state, or stays closed for want of memory; an open one stays as it is.
abbrev pub Opens : Option State → ℕ → Option State → Type 0
Opens None code after =
    ((code ≡ 0) × ((s : State) × (after ≡ Some s) × IsNew s)) ⊎ ((code ≡ 3) × (after ≡ None))
Opens (Some s) code after = (code ≡ 2) × (after ≡ Some s)
