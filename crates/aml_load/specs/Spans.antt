-- Where the methods' bodies stand in the terms of tables, in the order of the text (ACPI 6.5, 20.2.5.2).
use Rattle.std.specs.Prelude.{◌≡◌, ℕ, suc, List, [], ◌∷◌, ◌++◌, map}
use Rattle.aml_code.specs.Tree.{Tree, nothing, named, op, Trees, no_trees, tree_more, Part, child, Parts, no_parts}
use Rattle.aml_code.specs.Tree.{part_more, Tail, terms, elements, fields, body, Field, connection, Fields, no_fields}
use Rattle.aml_code.specs.Tree.{field_more, Link, target, buffer}
use Rattle.aml_set.specs.Methods.{Method}
use Rattle.aml_namespace.specs.Namespace.{Entry}
use Rattle.aml_load.specs.Loading.{methods_of}

-- a method's body: its table, by the place in load order, and where it stands in the AML of that table
pub record Span : Type 0 where
  pub table : ℕ
  pub start : ℕ
  pub len : ℕ

abbrev pub method_span : Method → Span
method_span m = record { table = m.table; start = m.start; len = m.len }

-- The spans of the bodies in a term of table t, wherever they stand in it: those in its parts, and then those in what
-- follows the parts.
abbrev mutual
  pub tree_spans : ℕ → Tree → List Span
  tree_spans t nothing = []
  tree_spans t (named n xs) = all_spans t xs
  tree_spans t (op o w ps r) = parts_spans t ps ++ tail_spans t r

  pub all_spans : ℕ → Trees → List Span
  all_spans t no_trees = []
  all_spans t (tree_more x xs) = tree_spans t x ++ all_spans t xs

  pub part_spans : ℕ → Part → List Span
  part_spans t (child x) = tree_spans t x
  part_spans t _ = []

  pub parts_spans : ℕ → Parts → List Span
  parts_spans t no_parts = []
  parts_spans t (part_more p ps) = part_spans t p ++ parts_spans t ps

  pub tail_spans : ℕ → Tail → List Span
  tail_spans t (terms xs) = all_spans t xs
  tail_spans t (elements xs) = all_spans t xs
  tail_spans t (fields us) = fields_spans t us
  tail_spans t (body start len) = record { table = t; start = start; len = len } ∷ []
  tail_spans t _ = []

  pub field_spans : ℕ → Field → List Span
  field_spans t (connection j) = link_spans t j
  field_spans t _ = []

  pub fields_spans : ℕ → Fields → List Span
  fields_spans t no_fields = []
  fields_spans t (field_more u us) = field_spans t u ++ fields_spans t us

  pub link_spans : ℕ → Link → List Span
  link_spans t (target n) = []
  link_spans t (buffer x) = tree_spans t x

-- those of the tables from number t on, in load order
abbrev pub tables_spans : ℕ → List Trees → List Span
tables_spans t [] = []
tables_spans t (xs ∷ rest) = all_spans t xs ++ tables_spans (suc t) rest

-- The methods of the entries are those whose bodies stand in the tables' trees, each once, in load order and in the
-- order of the text.
abbrev pub InTextOrder : List Trees → List Entry → Type 0
InTextOrder trees es = map method_span (methods_of es) ≡ tables_spans 0 trees
