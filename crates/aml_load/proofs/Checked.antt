-- A load whose last step looks at the names outside the methods.
use Rattle.std.proofs.Common.{◌≡◌, [], List, ℕ, Bool, Result, Ok, Err, IfOk, refl}
use Rattle.aml_code.specs.Tree.{Trees}
use Rattle.aml_namespace.specs.Known.{StandsFor}
use Rattle.aml_namespace.specs.Namespace.{Entry, Givens}
use Rattle.aml_set.specs.Views.{methods_of_set}
use Rattle.aml_set.specs.declared.tables.Table.{Table}
use Rattle.aml_set.specs.declared.tables.TableSet.{TableSet}
use Rattle.aml_load.specs.Declaring.{Listed, first_listed, uses_at}
use Rattle.aml_load.specs.HearingViews.{IsChecked}
use Rattle.aml_load.specs.Loading.{methods_of}
use Rattle.aml_load.specs.Tables.{GivesBy, tables_at}
use Rattle.aml_load.specs.declared.faults.LoadFault.{LoadFault}
use Rattle.aml_load.proofs.Loads.{load_gives, load_refused}

module _ (any z : Bool) (gs : Givens) (cs : List (List ℕ)) (HoldsIt : TableSet → List (List ℕ) → List Trees → List Entry → Type 0) where
  pub checked_gives : (tables : List Table) (answer : Result TableSet LoadFault) (trees : List Trees) (m : Listed)
      → ((x : TableSet) → x.tables.items ≡ tables → StandsFor x.space m.entries → methods_of_set x ≡ methods_of m.entries
      → HoldsIt x cs trees m.entries)
      → tables_at any 0 [] (first_listed gs) cs ≡ Ok (trees, m) → IfOk answer (λ x. x.tables.items ≡ tables)
      → IsChecked answer m (uses_at any z m.entries m.uses) → GivesBy HoldsIt any z gs answer cs
  checked_gives tables (Ok x) trees m holds read same (stands, methods, free) =
      (trees, m, holds x same stands methods, load_gives any z gs cs trees m m.uses tt read refl free)
  checked_gives tables (Err e) trees m holds read same refused = load_refused any z gs cs trees m m.uses e read refl refused
