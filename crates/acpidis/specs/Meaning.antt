-- What a set of dumps means: one listing, as plain data, and its text.
use Rattle.std.specs.Prelude.{◌≡◌, ◌≤◌, ℕ, Bool, ◌&&◌, List, ◌∷◌, map, length, drop}
use Rattle.std.specs.List.{AllZip}
use Rattle.std.specs.FinMap as finite
use Rattle.aml_names.specs.declared.segments.Seg.{Seg}
use Rattle.aml_code.specs.Tree.{Trees}
use Rattle.aml_namespace.specs.Namespace.{Entry}
use Rattle.aml_namespace.specs.Known.{Declared, declarations_in}
use Rattle.aml_load.specs.Loading.{methods_of, LoadsTo}
use Rattle.aml_load.specs.Views.{HoldsBy, HoldsLoad}
use Rattle.aml_set.specs.Views.{table_dumps, table_terms}
use Rattle.aml_set.specs.declared.tables.TableSet.{TableSet}
use Rattle.asl_text.specs.Texts.{OneBody}
use Rattle.asl_text.specs.Bodies.{body_view}
use Rattle.aml_text.specs.Listing.{listing_text}
use Rattle.aml_text.specs.declared.listing.Listing.{Listing}
use Rattle.acpi_tables.specs.declared.dump.Dump.{Dump}
use Rattle.acpi_tables.specs.Header.{table_of}
use Rattle.acpi_tables.specs.Order.{IsOrder, bytes_of}
use Rattle.acpidis.specs.declared.options.Options.{Options}
use Rattle.acpidis.specs.Bodies.{ReadsOrRaw, Became}

-- a listing: the indexes of the definition blocks in load order, their terms, the entries (what the user gives, then
-- what the terms declare), and a body for each method
pub record Meaning : Type 0 where
  pub dsdt : ℕ
  pub ssdts : List ℕ
  pub trees : List Trees
  pub entries : List Entry
  pub bodies : List OneBody

-- the AML of the definition blocks, in load order: what follows the 36 bytes of a table's header (ACPI 6.5, 5.2.11.1)
abbrev pub codes_of : List Dump → Meaning → List (List ℕ)
codes_of dumps k = map (λ index. drop 36 (table_of (bytes_of dumps index))) (k.dsdt ∷ k.ssdts)

-- The dumps have this order, and the AML of its tables loads to these trees and entries. Nothing is said of the bodies
-- of methods. Outside them an unknown name takes no arguments inside a declaration; elsewhere only where `any_run` and
-- `unknown_zero` are both set.
pub record LoadsSet (dumps : List Dump) (options : Options) (k : Meaning) : Type 0 where
  pub order : IsOrder dumps options.any_sum k.dsdt k.ssdts
  pub loads : LoadsTo options.any_run (options.any_run && options.unknown_zero) options.externals.items
      (codes_of dumps k) k.trees k.entries

-- The dumps mean this listing, with these options: they load to it, and each body is the terms that it reads as in the
-- namespace of all entries, or raw, where it reads as no terms.
pub record Means (dumps : List Dump) (options : Options) (k : Meaning) : Type 0 where
  pub set : LoadsSet dumps options k
  pub bodies : AllZip (ReadsOrRaw options.unknown_zero k.entries (codes_of dumps k)) (methods_of k.entries) k.bodies

-- the rows of the namespace: the declared paths in order, each once, with what its declarations say
abbrev pub rows_of : List Entry → List (List Seg × Declared)
rows_of es = finite.entries (declarations_in es)

-- the text of a listing
abbrev pub text_of : List Dump → Meaning → List ℕ
text_of dumps k = listing_text dumps (k.dsdt ∷ k.ssdts) (rows_of k.entries) (codes_of dumps k) k.trees k.bodies

-- ---- The tables of a set, loaded in their order, before the bodies of their methods are read.

-- the indexes of the definition blocks
abbrev pub order_of : Meaning → List ℕ
order_of k = k.dsdt ∷ k.ssdts

-- whether a name outside the methods whose count nothing tells takes none
abbrev pub none_unknown : Options → Bool
none_unknown options = options.any_run && options.unknown_zero

-- The tables' AML reads as these trees, which load to these entries, with these options.
abbrev pub LoadsBy : Options → List (List ℕ) → List Trees → List Entry → Type 0
LoadsBy options codes trees es = LoadsTo options.any_run (none_unknown options) options.externals.items codes trees es

-- the tables of a set are those of this listing, and so are these terms of them, whoever has them
pub record HasTablesBy (set : TableSet) (trees : List Trees) (dumps : List Dump) (k : Meaning) : Type 0 where
  pub named : table_dumps set.tables.items ≡ order_of k
  pub holds : HoldsBy set trees (codes_of dumps k) k.trees k.entries

-- the same of a set that keeps its terms
abbrev pub HasTables : TableSet → List Dump → Meaning → Type 0
HasTables set dumps k = HasTablesBy set (table_terms set.tables.items) dumps k

-- a set with these terms is what the dumps load to, which is nothing else, and within the limit of methods
pub record IsSetBy (dumps : List Dump) (options : Options) (set : TableSet) (trees : List Trees) : Type 0 where
  pub sound : (k : Meaning) × LoadsSet dumps options k × HasTablesBy set trees dumps k
  pub one : (k : Meaning) → LoadsSet dumps options k → HasTablesBy set trees dumps k
  pub few : length set.methods.items ≤ 1048576

-- the same of a set that keeps its terms
abbrev pub IsSet : List Dump → Options → TableSet → Type 0
IsSet dumps options set = IsSetBy dumps options set (table_terms set.tables.items)

-- ---- a listing in memory

-- A listing in memory is this one, of these dumps. Who read a body (`drawn`), and a raw body's fault, are free here:
-- other clauses say these (`AreDrawn`, `Told`).
pub record Shows (x : Listing) (dumps : List Dump) (k : Meaning) : Type 0 where
  pub same_dumps : x.dumps.now ≡ dumps
  pub order : x.order.dsdt ∷ x.order.ssdts.items ≡ k.dsdt ∷ k.ssdts
  pub set : HoldsLoad x.loaded (codes_of dumps k) k.trees k.entries
  pub bodies : map body_view x.bodies.items ≡ k.bodies

-- Each of its bodies became what it is: its terms are those that the body reads as, and no others, and the fault of a
-- raw one is true of it, and the first that is met.
abbrev pub Told : Listing → List Dump → Options → Meaning → Type 0
Told x dumps options k =
    AllZip (Became options.unknown_zero k.entries (codes_of dumps k)) (methods_of k.entries)
    x.bodies.items
