-- What a loaded set is the load of.
use Rattle.std.specs.Prelude.{◌≡◌, ℕ, List, [], map, slice_index_or, Some, ◌≢◌, Bool, ◌⊎◌, Result, Ok, Err, Vec}
use Rattle.std.specs.declared.alloc.Global.{Global}
use Rattle.aml_code.specs.Pieces.{Told}
use Rattle.aml_code.specs.Tree.{Trees, slice_of}
use Rattle.aml_code.specs.View.{nodes_view}
use Rattle.aml_namespace.specs.Known.{Known, StandsFor}
use Rattle.aml_set.specs.declared.loaded.Loaded.{Loaded}
use Rattle.aml_set.specs.Methods.{Method, method_in, span_of}
use Rattle.aml_set.specs.declared.tables.TableSet.{TableSet}
use Rattle.aml_set.specs.Views.{methods_of_set, table_codes, table_terms}
use Rattle.aml_load.specs.Kept.{AreKeptOf}
use Rattle.aml_load.specs.Loading.{methods_of}
use Rattle.aml_names.specs.declared.faults.CodeFault.{CodeFault}
use Rattle.aml_names.specs.declared.faults.CodeFault.TheVariants as codes
use Rattle.aml_names.specs.NameReading.{Gives}
use Rattle.aml_code.specs.declared.rows.Position.TheVariants as positions
use Rattle.aml_code.specs.Faults.{StandsAt, Arities}
use Rattle.aml_code.specs.Lawful.{ReadsBody}
use Rattle.aml_parse.specs.Reading.{all_at}
use Rattle.aml_namespace.specs.Namespace.{Entry}
use Rattle.aml_namespace.specs.Runs.{outlook_of, agreed_arity}

-- A loaded set has this AML and these terms, and its namespace and its methods are those of these entries.
pub record HoldsLoad (x : Loaded) (codes : List (List ℕ)) (ts : List Trees) (es : List Entry) : Type 0 where
  pub tables : map (λ c. c.now) x.tables.items ≡ codes
  pub trees : map (λ t. nodes_view t.items) x.trees.items ≡ ts
  pub space : StandsFor x.space es
  pub methods : map (method_in x.space) x.methods.items ≡ methods_of es

-- Those of a set of tables in one list are, and these are the tables' terms, whoever has them.
pub record HoldsBy (x : TableSet) (own : List Trees) (codes : List (List ℕ)) (ts : List Trees)
    (es : List Entry) : Type 0 where
  pub tables : table_codes x.tables.items ≡ codes
  pub trees : own ≡ ts
  pub space : StandsFor x.space es
  pub methods : methods_of_set x ≡ methods_of es

-- a set that keeps its terms
abbrev pub HoldsTables : TableSet → List (List ℕ) → List Trees → List Entry → Type 0
HoldsTables x codes ts es = HoldsBy x (table_terms x.tables.items) codes ts es

-- a set that keeps none
pub record HoldsNames (x : TableSet) (codes : List (List ℕ)) (es : List Entry) : Type 0 where
  pub tables : table_codes x.tables.items ≡ codes
  pub space : StandsFor x.space es
  pub methods : methods_of_set x ≡ methods_of es

-- and of its tables this is kept, by what a sink keeps of their AML and terms
pub record HoldsKept {S K : Type 0} (keeps : S → List ℕ → List Told → K → Type 0) (s : S)
    (x : TableSet × Vec K Global) (codes : List (List ℕ)) (ts : List Trees) (es : List Entry) : Type 0 where
  pub names : HoldsNames x.0 codes es
  pub kept : AreKeptOf keeps s codes ts x.1.items

-- ---- The bodies of methods, each read in the namespace of all entries (ACPI 6.5, 5.3 and 20.2.5).

-- The body of a method, a span of its table, reads as these terms. Where the code outside methods may not run, the
-- count of a name is that of `arity_of (namespace_of es)` (proved: `loads_strictly`).
abbrev pub IsBody : Bool → List Entry → List (List ℕ) → Method → Trees → Type 0
IsBody unknown_zero es tables m ts = ReadsBody (agreed_arity (outlook_of es) unknown_zero m.path) m.path
    (slice_of (slice_index_or tables m.table []) m.start m.len) ts

-- the body of a method reads as no terms, for this reason, which is true of the byte at its offset in the body
pub record IsUnread (unknown_zero : Bool) (es : List Entry) (tables : List (List ℕ)) (m : Method)
    (f : CodeFault) : Type 0 where
  pub reason : f ≢ codes.NoMemory
  pub stands : StandsAt (agreed_arity (outlook_of es) unknown_zero m.path) (span_of tables m) f
  pub none : (ts : Trees) → IsBody unknown_zero es tables m ts → ⊥

-- the body of a method reads as these terms and as no others, or it reads as none
abbrev pub IsReading : {X : Type 0} → (X → Trees) → Bool → List Entry → List (List ℕ) → Method → Result X CodeFault
    → Type 0
IsReading view z es tables m (Ok x) = IsBody z es tables m (view x)
    × ((ts : Trees) → IsBody z es tables m ts → ts ≡ view x)
IsReading view z es tables m (Err f) = (f ≡ codes.NoMemory) ⊎ IsUnread z es tables m f

-- Reading the body of a method forward, in the namespace of the entries: its terms, or the first fault that is met.
abbrev pub body_at : Bool → List Entry → List (List ℕ) → Method → Result Trees CodeFault
body_at unknown_zero es tables m =
    all_at (agreed_arity (outlook_of es) unknown_zero m.path) (Some m.path) positions.BodyTerm (span_of tables m)

-- What was answered of a method's body, seen by a view, is what reading it forward gives, unless memory was refused.
abbrev pub GivesBody : {X : Type 0} → (X → Trees) → Bool → List Entry → List (List ℕ) → Method → Result X CodeFault
    → Type 0
GivesBody view unknown_zero es tables m answer = Gives view answer (body_at unknown_zero es tables m)

-- These bytes read as these terms by what is known: in whatever tables they are the body of the method, and whatever
-- entries the namespace stands for.
pub record ReadsBy (unknown_zero : Bool) (k : Known) (bytes : List ℕ) (m : Method) (ts : Trees) : Type 0 where
  pub lawful : (arity : Arities) × ReadsBody arity m.path bytes ts
  pub reading : (tables : List (List ℕ)) → bytes ≡ span_of tables m → (es : List Entry) → StandsFor k es
      → IsReading (λ (read : Trees). read) unknown_zero es tables m (Ok ts)
