-- A stepping stone: the load of a set and the texts of its tables, each a piece of work.
use Rattle.std.specs.Prelude.{◌⊎◌, ℕ, zero, suc, List, [], Option, None, Result, IfOk, IfErr, IfSome, get_or}
use Rattle.acpi_tables.specs.declared.dump.Dump.{Dump}
use Rattle.aml_code.specs.Lawful.{ReadsModule}
use Rattle.aml_code.specs.Pieces.{line_pieces}
use Rattle.aml_code.specs.Tree.{Trees}
use Rattle.aml_set.specs.declared.tables.TableSet.{TableSet}
use Rattle.asl_text.specs.Tables.{IsMade}
use Rattle.asl_text.specs.declared.tables.TableText.{TableText}
use Rattle.acpidis.specs.Meaning.{IsSetBy, LoadsSet, Meaning}
use Rattle.acpidis.specs.Refusals.{IsWant}
use Rattle.acpidis.specs.declared.beside.Part.{Part}
use Rattle.acpidis.specs.declared.beside.Part.TheVariants as parts
use Rattle.acpidis.specs.declared.options.Options.{Options}
use Rattle.acpidis.specs.declared.refusal.Refusal.{Refusal}

-- the text of a table of this AML, by whatever terms it reads as
abbrev pub IsTextOf : List ℕ → TableText → Type 0
IsTextOf code text = (ts : Trees) → ReadsModule code ts → IsMade (line_pieces 1 ts) text

-- a set is what the dumps load to, with whatever terms
abbrev pub IsLoaded : List Dump → Options → TableSet → Type 0
IsLoaded dumps options set = (trees : List Trees) × IsSetBy dumps options set trees

-- what the dumps load to; or they load to nothing, unless memory was refused
abbrev pub IsLoad : List Dump → Options → Result TableSet Refusal → Type 0
IsLoad dumps options r = IfOk r (IsLoaded dumps options)
    × IfErr r (λ e. IsWant e ⊎ ((k : Meaning) → LoadsSet dumps options k → ⊥))

-- the first piece is the load, and behind it each is the text of a table, if it has one
abbrev pub IsPart : List Dump → Options → List (List ℕ) → ℕ → Part → Type 0
IsPart dumps options codes zero (parts.Set r) = IsLoad dumps options r
IsPart dumps options codes (suc n) (parts.Text text) = IfSome text (IsTextOf (get_or codes n []))
IsPart dumps options codes _ _ = ⊥

abbrev pub text_in : Part → Option TableText
text_in (parts.Text text) = text
text_in (parts.Set r) = None
