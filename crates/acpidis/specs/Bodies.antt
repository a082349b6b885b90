-- The AML of definition blocks, and what becomes of the bodies of methods: terms, or raw where a body reads as none.
use Rattle.std.specs.Prelude.{ℕ, List, drop, map, ◌≡◌, ◌<◌, ◌≤◌, Bool, true, false, length, slice_get, All, Vec, Err}
use Rattle.std.specs.Prelude.{Ok, Result, IfSome}
use Rattle.acpi_tables.specs.declared.dump.Dump.{Dump}
use Rattle.acpi_tables.specs.Header.{table_of}
use Rattle.acpi_tables.specs.Order.{bytes_of}
use Rattle.std.specs.List.{AllZip, list_any}
use Rattle.std.specs.Global.{Global}
use Rattle.std.specs.List.Sorted.{IsStrictlyIncreasing}
use Rattle.aml_names.specs.declared.faults.CodeFault.{CodeFault}
use Rattle.aml_code.specs.Tree.{Trees}
use Rattle.aml_code.specs.View.{nodes_view}
use Rattle.aml_namespace.specs.Namespace.{Entry}
use Rattle.aml_namespace.specs.Known.{StandsFor}
use Rattle.aml_set.specs.Methods.{Method, method_in, span_of}
use Rattle.aml_set.specs.Views.{table_codes}
use Rattle.aml_load.specs.Views.{IsBody, IsUnread, body_at}
use Rattle.aml_set.specs.declared.tables.TableSet.{TableSet}
use Rattle.aml_set.specs.declared.methods.Method.{Method as Kept}
use Rattle.aml_pool.specs.Counting.{IsOnce}
use Rattle.aml_pool.specs.Seats.{all_of}
use Rattle.asl_text.specs.declared.bodies.Body.{Body}
use Rattle.asl_text.specs.declared.bodies.Body.TheVariants as bodies
use Rattle.asl_text.specs.Texts.{OneBody, read, raw}
use Rattle.acpidis.specs.declared.bodies.Unread.{Unread}

-- the AML of the definition blocks at these indexes: what follows the 36 bytes of a header (ACPI 6.5, 5.2.11.1)
abbrev pub codes_in : List Dump → List ℕ → List (List ℕ)
codes_in dumps order = map (λ index. drop 36 (table_of (bytes_of dumps index))) order

-- what a listing has of a method: the terms that its body reads as; or raw, where the body reads as no terms
abbrev pub ReadsOrRaw : Bool → List Entry → List (List ℕ) → Method → OneBody → Type 0
ReadsOrRaw unknown_zero es tables m (read ts) = IsBody unknown_zero es tables m ts
ReadsOrRaw unknown_zero es tables m raw = (ts : Trees) → IsBody unknown_zero es tables m ts → ⊥

-- whether a body is raw, and whether one of several is
abbrev pub is_raw : OneBody → Bool
is_raw (read ts) = false
is_raw raw = true

abbrev pub has_raw : List OneBody → Bool
has_raw bodies = list_any is_raw bodies

-- The body of a method is raw for this fault: it reads as no terms, the fault is true of the byte at its offset in the
-- body, and it is the first that is met in reading it forward.
pub record IsRaw (unknown_zero : Bool) (es : List Entry) (tables : List (List ℕ)) (m : Method)
    (fault : CodeFault) : Type 0 where
  pub unread : IsUnread unknown_zero es tables m fault
  pub first : body_at unknown_zero es tables m ≡ Err fault

-- a body in memory: it reads as its terms and as no others, or it is raw for its fault
abbrev pub Became : Bool → List Entry → List (List ℕ) → Method → Body → Type 0
Became z es tables m (bodies.Tree nodes) =
    IsBody z es tables m (nodes_view nodes.items) × ((ts : Trees) → IsBody z es tables m ts
    → ts ≡ nodes_view nodes.items)
Became z es tables m (bodies.Raw fault) = IsRaw z es tables m fault

-- one ascending list for each worker, and each number below the count stands in exactly one of them, once
pub record AreDrawn (workers count : ℕ) (drawn : List (Vec ℕ Global)) : Type 0 where
  pub lists : length drawn ≡ workers
  pub ascending : All (λ v. IsStrictlyIncreasing v.items) drawn
  pub once : IsOnce (all_of drawn) count

-- ---- A stepping stone of the proofs: the bodies of a loaded set.

-- the body of this number can be read
abbrev pub CanRead : TableSet → ℕ → Type 0
CanRead x number = number < length x.methods.items

-- What a body reads as: its terms, or the fault for which it is raw. So does one in memory.
abbrev pub Reading : Type 0
Reading = Result Trees CodeFault

abbrev pub reading_of : Body → Reading
reading_of (bodies.Tree nodes) = Ok (nodes_view nodes.items)
reading_of (bodies.Raw fault) = Err fault

-- what a listing has of it
abbrev pub entry_of : Reading → OneBody
entry_of (Ok ts) = read ts
entry_of (Err fault) = raw

-- The body of a method reads as these terms and as no others, or it is raw for this fault.
abbrev pub ReadsAs : Bool → List Entry → List (List ℕ) → Method → Reading → Type 0
ReadsAs z es tables m (Ok ts) =
    IsBody z es tables m ts × ((others : Trees) → IsBody z es tables m others → others ≡ ts)
ReadsAs z es tables m (Err fault) = IsRaw z es tables m fault

-- whatever entries the namespace of a loaded set stands for
abbrev pub ReadsIn : Bool → TableSet → Kept → Reading → Type 0
ReadsIn z x m r = (es : List Entry) → StandsFor x.space es → ReadsAs z es (table_codes x.tables.items) (method_in x.space m) r

-- that of the method of this number, and those of all
abbrev pub ReadsOf : Bool → TableSet → ℕ → Reading → Type 0
ReadsOf z x number r = IfSome (slice_get x.methods.items number) (λ m. ReadsIn z x m r)

abbrev pub AreReadings : Bool → TableSet → List Reading → Type 0
AreReadings z x rs = AllZip (ReadsIn z x) x.methods.items rs

abbrev pub AreBodies : Bool → TableSet → List Body → Type 0
AreBodies z x ds = AreReadings z x (map reading_of ds)

-- the body that is to be read is that of the method of its number
pub record IsItsBody (u : Unread) : Type 0 where
  pub short : length u.bytes.now ≤ 16777216
  pub body : u.bytes.now ≡ span_of (table_codes u.set.now.tables.items) (method_in u.set.now.space u.method.now)
