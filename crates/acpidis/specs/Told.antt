-- A stepping stone: a loaded set of which texts of tables are kept, or their terms, or what is said of them.
use Rattle.std.specs.Prelude.{◌≡◌, ℕ, List, [], ◌∷◌, Option, IfSome}
use Rattle.std.specs.List.{AllZip}
use Rattle.acpi_tables.specs.declared.dump.Dump.{Dump}
use Rattle.aml_code.specs.Pieces.{Told, line_pieces}
use Rattle.aml_code.specs.Tree.{Trees}
use Rattle.aml_namespace.specs.Namespace.{Entry}
use Rattle.aml_load.specs.Kept.{AreKeptOf as AreTablesKept}
use Rattle.aml_load.specs.Views.{HoldsBy}
use Rattle.aml_set.specs.Views.{table_codes}
use Rattle.aml_set.specs.declared.tables.TableSet.{TableSet}
use Rattle.aml_text.specs.Told.{AreTold}
use Rattle.asl_text.specs.Tables.{IsMade}
use Rattle.asl_text.specs.declared.tables.TableText.{TableText}
use Rattle.acpidis.specs.Checks.{first_check}
use Rattle.acpidis.specs.Meaning.{IsSetBy, LoadsBy}
use Rattle.acpidis.specs.declared.checking.Checked.{Checked}
use Rattle.acpidis.specs.declared.options.Options.{Options}

-- the texts that are kept of tables with these terms, in their order
abbrev pub AreTexts : List Trees → List (Option TableText) → Type 0
AreTexts trees texts = AllZip (λ ts text. IfSome text (IsMade (line_pieces 1 ts))) trees texts

-- a set is what tables load to, which is nothing else, and of their AML and terms a sink keeps this
abbrev pub LoadsKept : {S K : Type 0} → (S → List ℕ → List Told → K → Type 0) → S → Options → List (List ℕ) → TableSet
    → List K → Type 0
LoadsKept keeps s options codes x kept = (own : List Trees)
    × ((trees : List Trees) × (es : List Entry) × LoadsBy options codes trees es × HoldsBy x own codes trees es)
    × ((trees : List Trees) (es : List Entry) → LoadsBy options codes trees es → HoldsBy x own codes trees es)
    × AreTablesKept keeps s codes own kept

-- the same of the tables of dumps
abbrev pub IsKeptSet : {S K : Type 0} → (S → List ℕ → List Told → K → Type 0) → S → List Dump → Options → TableSet
    → List K → Type 0
IsKeptSet keeps s dumps options set kept = (trees : List Trees)
    × (IsSetBy dumps options set trees × AreTablesKept keeps s (table_codes set.tables.items) trees kept)

-- a set is what the dumps load to, and each of its tables has the text of its terms, or these
abbrev pub HasTexts : List Dump → Options → TableSet → List (Option TableText) → Type 0
HasTexts dumps options set texts =
    (trees : List Trees) × (IsSetBy dumps options set trees × AreTold set.tables.items texts trees)

-- this is said of each table before its methods are counted
abbrev pub AreFirst : List (List ℕ) → List Trees → List Checked → Type 0
AreFirst [] [] [] = Unit {0}
AreFirst (code ∷ codes) (ts ∷ trees) (c ∷ cs) = (c ≡ first_check code ts) × AreFirst codes trees cs
AreFirst _ _ _ = ⊥

-- a set is what the dumps load to, and this is said of its tables
abbrev pub IsTriedSet : List Dump → Options → TableSet → List Checked → Type 0
IsTriedSet dumps options set firsts =
    (trees : List Trees) × (IsSetBy dumps options set trees × AreFirst (table_codes set.tables.items) trees firsts)
