-- What a set has, value by value: the tables that it loads, the rows of the namespace, the methods and their bodies. The
-- texts of values stand one behind the other, and each value says where its own begin, and how long they are.
use Rattle.std.specs.Prelude.{◌≡◌, ◌+◌, ⊤, ℕ, Bool, true, false, cond, List, [], ◌∷◌, ◌++◌, flat_map, length}
use Rattle.std.specs.Prelude.{Result, Ok, Err, Vec}
use Rattle.std.specs.Global.{Global}
use Rattle.std.specs.FinMap as map
use Rattle.std.specs.List.{AllZip}
use Rattle.acpi_tables.specs.declared.dump.Dump.{Dump}
use Rattle.aml_load.specs.Loading.{methods_of}
use Rattle.aml_names.specs.declared.faults.CodeFault.{CodeFault}
use Rattle.aml_names.specs.declared.faults.CodeFault.TheVariants as codes
use Rattle.aml_names.specs.declared.segments.Seg.{Seg}
use Rattle.aml_namespace.specs.Known.{Declared}
use Rattle.aml_namespace.specs.Kinds.{Kind}
use Rattle.aml_namespace.specs.declared.kinds.Kind.TheVariants as kinds
use Rattle.aml_set.specs.Methods.{Method}
use Rattle.aml_set.specs.Views.{methods_of_set, table_dumps}
use Rattle.aml_set.specs.declared.tables.TableSet.{TableSet}
use Rattle.aml_text.specs.Rows.{path_text}
use Rattle.asl_text.specs.Texts.{all_lines}
use Rattle.acpidis.specs.Bodies.{Reading, ReadsAs, AreReadings}
use Rattle.acpidis.specs.Meaning.{Meaning, LoadsSet, codes_of, order_of, rows_of}
use Rattle.acpidis.specs.declared.options.Options.{Options}
use Rattle.acpidis_c.specs.declared.code.Fault.{Fault}
use Rattle.acpidis_c.specs.declared.code.Fault.TheVariants as faults
use Rattle.acpidis_c.specs.declared.contents.BodyValue.{BodyValue}
use Rattle.acpidis_c.specs.declared.contents.Contents.{Contents}
use Rattle.acpidis_c.specs.declared.contents.MethodValue.{MethodValue}
use Rattle.acpidis_c.specs.declared.contents.RowValue.{RowValue}
use Rattle.acpidis_c.specs.declared.contents.Values.{Values}

-- the values of things whose texts stand one behind the other from a place on
abbrev pub values_from : {A B : Type 0} → (A → List ℕ) → (ℕ → A → B) → ℕ → List A → List B
values_from text value at [] = []
values_from text value at (x ∷ xs) = value at x ∷ values_from text value (at + length (text x)) xs

-- these are the values of things, with all their texts
pub record AreValues {A B : Type 0} (text : A → List ℕ) (value : ℕ → A → B) (xs : List A) (v : Values B) : Type 0 where
  pub items : v.items.items ≡ values_from text value 0 xs
  pub texts : v.texts.items ≡ flat_map text xs

-- ---- rows of the namespace

abbrev pub kind_number : Kind → ℕ
kind_number kinds.Scope = 0
kind_number kinds.Name = 1
kind_number (kinds.Method args) = 2
kind_number (kinds.Alias is_open target) = 3
kind_number kinds.Device = 4
kind_number kinds.Processor = 5
kind_number kinds.PowerResource = 6
kind_number kinds.ThermalZone = 7
kind_number kinds.Mutex = 8
kind_number kinds.Event = 9
kind_number kinds.Region = 10
kind_number kinds.DataRegion = 11
kind_number kinds.Field = 12
kind_number kinds.BufferField = 13

-- the number of arguments, of a method alone
abbrev pub arguments_of : Kind → ℕ
arguments_of (kinds.Method args) = args
arguments_of _ = 0

-- the path that an Alias leads to
abbrev pub target_text : Kind → List ℕ
target_text (kinds.Alias is_open target) = path_text target
target_text _ = []

-- the text of a row's path, and behind it that of its target
abbrev pub row_text : List Seg × Declared → List ℕ
row_text row = path_text row.0 ++ target_text row.1.kind

abbrev pub row_value : ℕ → List Seg × Declared → RowValue
row_value at row = record {
  at = at;
  path = length (path_text row.0);
  target = length (target_text row.1.kind);
  times = row.1.times;
  kind = kind_number row.1.kind;
  arguments = arguments_of row.1.kind;
  maybe = cond row.1.sure 0 1;
}

-- ---- methods

abbrev pub method_text : Method → List ℕ
method_text method = path_text method.path

abbrev pub method_value : ℕ → Method → MethodValue
method_value at method = record {
  at = at;
  path = length (method_text method);
  table = method.table;
  start = method.start;
  length = method.len;
  flags = method.flags;
}

-- ---- bodies

abbrev pub body_number : CodeFault → ℕ
body_number (codes.Truncated at) = 1
body_number (codes.PkgBits at) = 2
body_number (codes.PkgPast at) = 3
body_number (codes.BadName at) = 4
body_number (codes.UnknownOp at) = 5
body_number (codes.NotHere at) = 6
body_number (codes.StrayElse at) = 7
body_number (codes.UnknownName at) = 8
body_number (codes.EmptyName at) = 9
body_number (codes.NestedMethod at) = 10
body_number (codes.NestedScope at) = 11
body_number (codes.ModuleCode at) = 12
body_number (codes.BadCount at) = 13
body_number (codes.TooDeep at) = 14
body_number codes.NoMemory = 15

-- the byte of the body that it is about
abbrev pub body_offset : CodeFault → ℕ
body_offset (codes.Truncated at) = at
body_offset (codes.PkgBits at) = at
body_offset (codes.PkgPast at) = at
body_offset (codes.BadName at) = at
body_offset (codes.UnknownOp at) = at
body_offset (codes.NotHere at) = at
body_offset (codes.StrayElse at) = at
body_offset (codes.UnknownName at) = at
body_offset (codes.EmptyName at) = at
body_offset (codes.NestedMethod at) = at
body_offset (codes.NestedScope at) = at
body_offset (codes.ModuleCode at) = at
body_offset (codes.BadCount at) = at
body_offset (codes.TooDeep at) = at
body_offset codes.NoMemory = 0

-- the lines of a body without an indent; of a raw one there are none
abbrev pub body_text : Reading → List ℕ
body_text (Ok ts) = all_lines 0 ts
body_text (Err fault) = []

-- where they stand, or the fault for which the body is raw
abbrev pub body_value : ℕ → Reading → BodyValue
body_value at (Ok ts) = record { at = at; length = length (all_lines 0 ts); fault = 0; offset = 0 }
body_value at (Err fault) = record { at = at; length = 0; fault = body_number fault; offset = body_offset fault }

-- by the lines of a body, or its fault, in memory
abbrev pub kept_text : Result (Vec ℕ Global) CodeFault → List ℕ
kept_text (Ok lines) = lines.items
kept_text (Err fault) = []

abbrev pub kept_value : ℕ → Result (Vec ℕ Global) CodeFault → BodyValue
kept_value at (Ok lines) = record { at = at; length = length lines.items; fault = 0; offset = 0 }
kept_value at (Err fault) = record { at = at; length = 0; fault = body_number fault; offset = body_offset fault }

-- ---- of a listing

-- The bodies of its methods, if they were asked for: each reads so, as nothing else, and a raw one has the first fault
-- that is met.
abbrev pub HasBodies : Bool → List Dump → Options → Meaning → Values BodyValue → Type 0
HasBodies true dumps options k v =
    (rs : List Reading)
    × AllZip (ReadsAs options.unknown_zero k.entries (codes_of dumps k)) (methods_of k.entries) rs
    × AreValues body_text body_value rs v
HasBodies false dumps options k v = AreValues body_text body_value [] v

-- its tables, as the indexes of their dumps in load order, its rows and its methods
pub record HasContents (bodies : Bool) (dumps : List Dump) (options : Options) (k : Meaning) (x : Contents) : Type 0 where
  pub tables : x.tables.items ≡ order_of k
  pub rows : AreValues row_text row_value (rows_of k.entries) x.rows
  pub methods : AreValues method_text method_value (methods_of k.entries) x.methods
  pub read : HasBodies bodies dumps options k x.bodies

-- The dumps load to a listing that has these contents, and to no other.
abbrev pub AreContents : Bool → List Dump → Options → Contents → Type 0
AreContents bodies dumps options x =
    ((k : Meaning) × LoadsSet dumps options k × HasContents bodies dumps options k x)
    × ((k : Meaning) → LoadsSet dumps options k → HasContents bodies dumps options k x)

-- Why it has none.
abbrev pub RefusesContents : List Dump → Options → Fault → Type 0
RefusesContents dumps options faults.NoMemory = ⊤
RefusesContents dumps options faults.Refused = (k : Meaning) → LoadsSet dumps options k → ⊥
RefusesContents dumps options _ = ⊥

-- ---- A stepping stone of the proofs: the contents of a loaded set.

-- the bodies, by what a set of tables has
abbrev pub AreRead : Bool → Bool → TableSet → Values BodyValue → Type 0
AreRead true z set v = (rs : List Reading) × AreReadings z set rs × AreValues body_text body_value rs v
AreRead false z set v = AreValues body_text body_value [] v

pub record AreIn (bodies z : Bool) (set : TableSet) (x : Contents) : Type 0 where
  pub tables : x.tables.items ≡ table_dumps set.tables.items
  pub rows : AreValues row_text row_value (map.entries set.space.declarations) x.rows
  pub methods : AreValues method_text method_value (methods_of_set set) x.methods
  pub read : AreRead bodies z set x.bodies
