-- What comes of a run, by how it ended.
use Rattle.std.proofs.Common.{◌≡◌, ℕ, List, [], sym, subst, ap, inl, inr}
use Rattle.std.specs.Prelude.{Option, None, Some, Result, Ok, Err, ◌⊎◌, Bool}
use Rattle.acpi_tables.specs.declared.dump.Dump.{Dump}
use Rattle.acpidis.specs.Endings.{IsOutput, Ends}
use Rattle.acpidis.specs.Meaning.{Meaning, Means}
use Rattle.acpidis.specs.declared.options.Options.{Options}
use Rattle.acpidis.specs.declared.faults.RunFault.{RunFault}
use Rattle.acpidis.specs.declared.faults.RunFault.TheVariants as ends
use Rattle.acpidis_c.specs.States.{Settles}
use Rattle.acpidis_c.specs.declared.state.State.{State}

-- what comes of it, its text apart
abbrev Came : List Dump → Options → Bool → ℕ → List ℕ → Type 0
Came dumps options check status text =
    IsOutput dumps options check status text ⊎ ((status ≡ 1) × (text ≡ []) × ((k : Meaning) → Means dumps options k → ⊥))

-- what there is, or else x
abbrev held : {A : Type 0} → A → Option A → A
held x (Some y) = y
held x None = x

-- a refusal that isn't a want says that the dumps mean nothing
not_want : {A B : Type 0} → (A → ⊥) → A ⊎ B → B
not_want isnt (inl a) = absurd (isnt a)
not_want isnt (inr b) = b

some_is : {A : Type 0} {x y : A} → Some x ≡ Some y → x ≡ y
some_is {A} {x} e = ap (λ o. held x o) e

came_of : (dumps : List Dump) (options : Options) (check : Bool) (ended : Result ℕ RunFault) (status : ℕ)
    (text : List ℕ) → Ends dumps options check (Some []) (Some text) ended → Settles ended status
    → Came dumps options check status text
came_of dumps options check (Ok s) status text e settled =
    inl (subst (λ n. IsOutput dumps options check n text) (sym settled)
    (subst (λ t. IsOutput dumps options check s t) (sym e.2) e.1))
came_of dumps options check (Err (ends.Refused refusal)) status text e settled =
    inr (settled.0, some_is e.0, not_want settled.1 e.1)
came_of dumps options check (Err ends.Differs) status text e settled = absurd e
came_of dumps options check (Err (ends.Write fault)) status text e settled = absurd settled

pub came : (s : State) (dumps : List Dump) → dumps ≡ s.dumps.items → (check : Bool) (ended : Result ℕ RunFault) (status : ℕ)
    (before after : List ℕ) → before ≡ [] → Ends dumps s.options check (Some before) (Some after) ended
    → Settles ended status → Came s.dumps.items s.options check status after
came s dumps same check ended status before after none e settled =
    came_of s.dumps.items s.options check ended status after
    (subst (λ b. Ends s.dumps.items s.options check (Some b) (Some after) ended) none
    (subst (λ ds. Ends ds s.options check (Some before) (Some after) ended) same e)) settled
