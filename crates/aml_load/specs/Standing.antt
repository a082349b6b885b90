-- The terms of tables outside the methods' bodies, each where it stands (ACPI 6.5, 5.3 and 20.2.5): in the scope in
-- which a load places what it declares. So a Scope opens the path that its name leads to by what is listed in front of
-- it, and not by what is declared later.
use Rattle.std.specs.Prelude.{ℕ, suc, Bool, List, [], ◌∷◌, ◌++◌, Result, Ok, Err}
use Rattle.aml_names.specs.declared.segments.Seg.{Seg}
use Rattle.aml_code.specs.Tree.{Tree, op, Trees, no_trees, tree_more, Tail, terms}
use Rattle.aml_namespace.specs.Namespace.{Givens}
use Rattle.aml_load.specs.declared.faults.LoadFault.{LoadFault}
use Rattle.aml_load.specs.Declaring.{Listed, first_listed}
use Rattle.aml_load.specs.Loading.{Where}
use Rattle.aml_load.specs.Running.{Front, table_front, entered_at, behind_tree, behind_table}

-- a term, with its table, by the place in load order, its scope, and whether its site is sure
pub record Standing : Type 0 where
  pub table : ℕ
  pub scope : List Seg
  pub sure : Bool
  pub term : Tree

abbrev pub stands : Where → Tree → Standing
stands site t = record { table = site.table; scope = site.scope; sure = site.sure; term = t }

-- the terms behind a step of the load; none where the load stops
infixl 10 ◌>>>◌
abbrev pub ◌>>>◌ : {A : Type 0} → Result A LoadFault → (A → List Standing) → List Standing
(Ok x) >>> f = f x
(Err e) >>> f = []

unfoldable mutual
  -- a term at the site of the front in front of it, and then those inside it, behind what it declares itself
  pub term_stands : Front → Tree → List Standing
  term_stands f (op o w ps r) =
      stands f.site (op o w ps r) ∷ (entered_at f (op o w ps r) >>> λ inner. inside_stand inner r)
  term_stands f t = stands f.site t ∷ []

  pub inside_stand : Front → Tail → List Standing
  inside_stand f (terms ts) = all_stand f ts
  inside_stand f _ = []

  -- terms in the order of the text, each behind those in front of it
  pub all_stand : Front → Trees → List Standing
  all_stand f no_trees = []
  all_stand f (tree_more t ts) = term_stands f t ++ (behind_tree f t >>> λ g. all_stand g ts)

-- those of the tables from number t on, each table from the root
unfoldable pub tables_stand : Bool → ℕ → Listed → List Trees → List Standing
tables_stand any_run t l [] = []
tables_stand any_run t l (ts ∷ rest) = all_stand (table_front any_run t l) ts
    ++ (behind_table any_run t l ts >>> λ k. tables_stand any_run (suc t) k rest)

-- those of a set, where the user gives these counts
abbrev pub set_stands : Bool → Givens → List Trees → List Standing
set_stands any_run gs trees = tables_stand any_run 0 (first_listed gs) trees
