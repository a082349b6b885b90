use Rattle.std.proofs.Common.{◌++◌, ap, subst, sym, ◌∙◌}
use Rattle.std.proofs.lemmas.Result.{err_from_is_err_and}
use Rattle.aml_set.specs.Views.{trees_view}
use Rattle.aml_load.specs.Declaring.{first_listed}
use Rattle.aml_load.specs.Standings.{standings_view, AreStanding, met_tables}
use Rattle.aml_load.proofs.Walks.{set_fails, set_met}
use Rattle.aml_load.proofs.standing.found_terms.Goals as goal

pub returns-in_err-find_tables-clause-forward : goal.returns-in_err-find_tables-clause-forward
returns-in_err-find_tables-clause-forward c =
    let gs = c.args.givens.now in
    let none = subst (AreStanding c.in_ok-progress.progress.space) (sym c.new-found.ensures.items) tt in
    let gave = err_from_is_err_and c.from_residual-in_err-find_tables.result c.from_residual-in_err-find_tables.ensures.1 in
    rw (gave.1, gave.2) (set_fails c.args.any_run gs (trees_view c.args.trees.now) c.in_err-find_tables.field-0.0
    (c.in_err-find_tables.ensures (first_listed gs) c.in_ok-progress.ensures none))

pub returns-clause-found : goal.returns-clause-found
returns-clause-found c =
    let gs = c.args.givens.now in
    let any = c.args.any_run in
    let trees = trees_view c.args.trees.now in
    let k = c.in_ok-progress.progress.space in
    let none = subst (AreStanding k) (sym c.new-found.ensures.items) tt in
    (c.in_ok-find_tables.ensures (first_listed gs) c.in_ok-progress.ensures none).3.found
    ∙ ap (λ xs. standings_view k xs ++ met_tables any 0 (first_listed gs) trees) c.new-found.ensures.items
    ∙ set_met any gs trees
