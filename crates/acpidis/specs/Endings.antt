-- What a run prints, and how it ends.
use Rattle.std.specs.Prelude.{◌≡◌, ℕ, Bool, true, false, cond, List, Option, ◌⊎◌, Result, Ok, Err}
use Rattle.text_writer.specs.Prints.{Cut}
use Rattle.acpi_tables.specs.declared.dump.Dump.{Dump}
use Rattle.acpidis.specs.declared.options.Options.{Options}
use Rattle.acpidis.specs.Bodies.{has_raw}
use Rattle.acpidis.specs.Checks.{checks_text}
use Rattle.acpidis.specs.Meaning.{Meaning, Means, text_of}
use Rattle.std.specs.Io.KnownBytes.{Appends}
use Rattle.acpidis.specs.declared.faults.RunFault.{RunFault}
use Rattle.acpidis.specs.declared.faults.RunFault.TheVariants as faults
use Rattle.acpidis.specs.Refusals.{IsWant}

-- what is printed of a listing: its text, or with `check` a line for each table
abbrev pub output_of : Bool → List Dump → Meaning → List ℕ
output_of false dumps k = text_of dumps k
output_of true dumps k = checks_text dumps k

-- the status that goes with it: 3 where a body is raw, else 0
abbrev pub status_with : Meaning → ℕ
status_with k = cond (has_raw k.bodies) 3 0

-- The dumps have this text: that of a listing that they mean.
pub record Lists (dumps : List Dump) (options : Options) (check : Bool) (status : ℕ) (text : List ℕ) : Type 0 where
  pub listing : Meaning
  pub means : Means dumps options listing
  pub text_is : text ≡ output_of check dumps listing
  pub status_is : status ≡ status_with listing

-- the first bytes of the text went out, and not all
pub record IsCut (dumps : List Dump) (options : Options) (check : Bool) (before after : Option (List ℕ)) : Type 0 where
  pub status : ℕ
  pub text : List ℕ
  pub wrote : ℕ
  pub lists : Lists dumps options check status text
  pub cut : Cut before after text wrote

-- ---- A stepping stone of the proofs: how a whole run ends before its status is made.

-- the dumps have this text, and no other, and no other status goes with it
pub record IsOutput (dumps : List Dump) (options : Options) (check : Bool) (status : ℕ) (text : List ℕ) : Type 0 where
  pub lists : Lists dumps options check status text
  pub one : (other : ℕ) (others : List ℕ) → Lists dumps options check other others → (other ≡ status) × (others ≡ text)

-- How a run ends before its status is made: the text of the one listing went out, and the status is that of its
-- bodies; or the first bytes of the text did; or nothing, and then the set means no listing, unless memory or a thread
-- was refused. No table of a listing that the dumps mean differs.
abbrev pub Ends : List Dump → Options → Bool → Option (List ℕ) → Option (List ℕ) → Result ℕ RunFault → Type 0
Ends dumps options check before after (Ok status) =
    (text : List ℕ) × IsOutput dumps options check status text × Appends before after text
Ends dumps options check before after (Err (faults.Write fault)) = IsCut dumps options check before after
Ends dumps options check before after (Err (faults.Refused fault)) =
    (after ≡ before) × (IsWant fault ⊎ ((k : Meaning) → ¬ Means dumps options k))
Ends dumps options check before after (Err faults.Differs) = ⊥

-- the exit status of a run that ends early
abbrev pub status_of : RunFault → ℕ
status_of (faults.Write fault) = 4
status_of _ = 1
