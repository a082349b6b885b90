use Rattle.std.proofs.Common.{◌≡◌, ℕ, Bool, [], List, Result, Ok, IfOk, ap, subst}
use Rattle.std.specs.Prelude.{Vec}
use Rattle.std.specs.declared.alloc.Global.{Global}
use Rattle.std.proofs.lemmas.Result.{err_from_is_err_and}
use Rattle.aml_code.specs.Pieces.{Told}
use Rattle.aml_code.specs.Tree.{Trees}
use Rattle.aml_namespace.specs.Namespace.{Entry, Givens}
use Rattle.aml_load.specs.Declaring.{Listed, first_listed, uses_at}
use Rattle.aml_load.specs.HearingViews.{IsChecked}
use Rattle.aml_load.specs.Kept.{AreKeptOf}
use Rattle.aml_load.specs.Tables.{GivesBy, tables_at}
use Rattle.aml_load.specs.Views.{HoldsKept}
use Rattle.aml_load.specs.declared.faults.LoadFault.{LoadFault}
use Rattle.aml_set.specs.Views.{table_codes}
use Rattle.aml_set.specs.declared.tables.Table.{Table}
use Rattle.aml_set.specs.declared.tables.TableSet.{TableSet}
use Rattle.aml_load.proofs.Checked.{checked_gives}
use Rattle.aml_load.proofs.loading.hear_each.Goals as goal

-- the set, with what is kept of its tables
module _ {S K : Type 0} (keeps : S → List ℕ → List Told → K → Type 0) (s : S) (kept : Vec K Global) where
  abbrev HoldsIt : TableSet → List (List ℕ) → List Trees → List Entry → Type 0
  HoldsIt x codes trees es = HoldsKept keeps s (x, kept) codes trees es

  gives : (any z : Bool) (gs : Givens) (ts tables : List Table) (answer : Result TableSet LoadFault) (trees : List Trees) (m : Listed)
      → ts ≡ tables → AreKeptOf keeps s (table_codes ts) trees kept.items → tables_at any 0 [] (first_listed gs) (table_codes ts) ≡ Ok (trees, m)
      → IfOk answer (λ x. x.tables.items ≡ tables) → IsChecked answer m (uses_at any z m.entries m.uses)
      → GivesBy HoldsIt any z gs answer (table_codes tables)
  gives any z gs ts tables answer trees m is are read same checked =
      checked_gives any z gs (table_codes tables) HoldsIt tables answer trees m
      (λ x same stands methods. record {
        names = record { tables = ap table_codes same; space = stands; methods = methods };
        kept = subst (λ xs. AreKeptOf keeps s (table_codes xs) trees kept.items) is are;
      }) (subst (λ xs. tables_at any 0 [] (first_listed gs) (table_codes xs) ≡ Ok (trees, m)) is read) same checked

pub returns-clause-gives : goal.returns-clause-gives
returns-clause-gives g c =
    let rules = c.args.rules in
    let all = c.in_ok-heard.ensures.heard in
    let heard = all.1.1 (first_listed rules.givens.now) c.in_ok-progress.ensures in
    let kept = c.in_ok-heard.kept in
    subst (λ r. GivesBy (HoldsIt g.S.TableSink.keeps c.args.sink.now kept) rules.any_run rules.unknown_zero rules.givens.now r (table_codes c.args.tables.items))
    c.in_ok-set.was
    (gives g.S.TableSink.keeps c.args.sink.now kept rules.any_run rules.unknown_zero rules.givens.now _ c.args.tables.items c.checked_set.result all.0 heard.0
    c.as_slice.ensures.value all.1.0 heard.2 c.checked_set.ensures.tables (c.checked_set.ensures.checked heard.0 heard.1))

pub returns-in_err-set-clause-gives : goal.returns-in_err-set-clause-gives
returns-in_err-set-clause-gives g c =
    let rules = c.args.rules in
    let all = c.in_ok-heard.ensures.heard in
    let heard = all.1.1 (first_listed rules.givens.now) c.in_ok-progress.ensures in
    let kept = c.in_ok-heard.kept in
    let gave = err_from_is_err_and c.from_residual-in_err-set.result c.from_residual-in_err-set.ensures.1 in
    rw (gave.1, gave.2)
    (subst (λ r. GivesBy (HoldsIt g.S.TableSink.keeps c.args.sink.now kept) rules.any_run rules.unknown_zero rules.givens.now r (table_codes c.args.tables.items))
    c.in_err-set.was
    (gives g.S.TableSink.keeps c.args.sink.now kept rules.any_run rules.unknown_zero rules.givens.now _ c.args.tables.items c.checked_set.result all.0 heard.0
    c.as_slice.ensures.value all.1.0 heard.2 c.checked_set.ensures.tables (c.checked_set.ensures.checked heard.0 heard.1)))
