-- The methods of a set of tables (ACPI 6.5, 19.6.85): by their paths, and as the program keeps them, by the numbers of
-- these.
use Rattle.std.specs.Prelude.{ℕ, ◌<◌, List, [], length, map, get_or, slice_index_or}
use Rattle.std.specs.List.{AllByRecursion}
use Rattle.aml_names.specs.declared.segments.Seg.{Seg}
use Rattle.aml_code.specs.Tree.{slice_of}
use Rattle.aml_namespace.specs.Known.{Known}
use Rattle.aml_set.specs.declared.methods.Method.{Method as Kept}

-- A method's path; its table, by the place in load order; where its body begins in the table's AML, and its length, in
-- bytes; and its flags.
pub record Method : Type 0 where
  pub path : List Seg
  pub table : ℕ
  pub start : ℕ
  pub len : ℕ
  pub flags : ℕ

-- the bytes of a method's body
abbrev pub span_of : List (List ℕ) → Method → List ℕ
span_of tables m = slice_of (slice_index_or tables m.table []) m.start m.len

-- a method that is kept, by the paths of a space; the root where none has the number
abbrev pub method_in : Known → Kept → Method
method_in k m =
    record { path = get_or k.paths m.path []; table = m.table; start = m.start; len = m.len; flags = m.flags }

abbrev pub methods_in : Known → List Kept → List Method
methods_in k ms = map (method_in k) ms

-- the paths of these methods have numbers
abbrev pub AreNumbered : Known → List Kept → Type 0
AreNumbered k ms = AllByRecursion (λ m. m.path < length k.paths) ms
