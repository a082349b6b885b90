-- What a loaded set of tables holds, apart from where it lies in memory.
use Rattle.std.specs.Prelude.{◌≡◌, ℕ, List, [], map, Option, Some, None, slice_get, slice_index_or}
use Rattle.std.specs.Global.{Vec}
use denote.Ref.{Bor}
use Rattle.aml_code.specs.declared.tree.Node.{Node}
use Rattle.aml_code.specs.Tree.{Trees, slice_of, encodings}
use Rattle.aml_code.specs.View.{nodes_view}
use Rattle.aml_set.specs.declared.loaded.Loaded.{Loaded}
use Rattle.aml_set.specs.declared.methods.Method.{Method}
use Rattle.aml_set.specs.Methods.{methods_in, Method as Declared}
use Rattle.aml_set.specs.declared.tables.Table.{Table}
use Rattle.aml_set.specs.declared.tables.TableSet.{TableSet}

abbrev pub codes_view : List (Bor (List ℕ)) → List (List ℕ)
codes_view codes = map (λ c. c.now) codes

abbrev pub trees_view : List (Vec Node) → List Trees
trees_view ts = map (λ t. nodes_view t.items) ts

abbrev pub body_in : List (List ℕ) → Option Method → List ℕ
body_in tables None = []
body_in tables (Some m) = slice_of (slice_index_or tables m.table []) m.start m.len

-- the bytes of the body of the method with this number
abbrev pub body_of : Loaded → ℕ → List ℕ
body_of x number = body_in (codes_view x.tables.items) (slice_get x.methods.items number)

-- ---- A set of tables in one list: the indexes of their dumps, their AML, and their terms.

abbrev pub table_dumps : List Table → List ℕ
table_dumps ts = map (λ t. t.dump) ts

abbrev pub table_codes : List Table → List (List ℕ)
table_codes ts = map (λ t. t.code.now) ts

abbrev pub table_terms : List Table → List Trees
table_terms ts = map (λ t. nodes_view t.terms.items) ts

-- the bytes of the body of the method with this number
abbrev pub body_in_set : TableSet → ℕ → List ℕ
body_in_set x number = body_in (table_codes x.tables.items) (slice_get x.methods.items number)

abbrev pub methods_of_set : TableSet → List Declared
methods_of_set x = methods_in x.space x.methods.items

-- the same tables, with their AML and their terms in lists of their own
pub record IsListed (x : Loaded) (set : TableSet) : Type 0 where
  pub tables : codes_view x.tables.items ≡ table_codes set.tables.items
  pub trees : trees_view x.trees.items ≡ table_terms set.tables.items
  pub space : x.space ≡ set.space
  pub methods : x.methods.items ≡ set.methods.items

-- ---- A table made anew.

abbrev pub encoded_in : Option (List ℕ) → Option Trees → List ℕ
encoded_in (Some code) (Some ts) = encodings code ts
encoded_in _ _ = []

-- the bytes of the tree of a table
abbrev pub table_encoding : Loaded → ℕ → List ℕ
table_encoding x t = encoded_in (slice_get (codes_view x.tables.items) t) (slice_get (trees_view x.trees.items) t)
