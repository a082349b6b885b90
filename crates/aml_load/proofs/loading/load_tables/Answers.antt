use Rattle.std.proofs.Common.{inr, length, sym, ap, ◌∙◌}
use Rattle.aml_set.specs.Views.{table_codes}
use Rattle.aml_set.proofs.TableLaws.{are_codes}
use Rattle.aml_set.proofs.MethodLaws.{as_many}
use Rattle.aml_load.specs.Views.{HoldsTables}
use Rattle.aml_load.proofs.Loads.{given_sound, given_few, given_one, given_complete, given_true}
use Rattle.aml_load.proofs.loading.load_tables.Goals as goal

pub returns-clause-sound : goal.returns-clause-sound
returns-clause-sound c =
    given_sound c.args.any_run c.args.unknown_zero c.args.givens.now (table_codes c.args.tables.items) HoldsTables c.load_each.result (inr (are_codes c.args.tables.items)) c.load_each.ensures.gives

pub returns-clause-few : goal.returns-clause-few
returns-clause-few c =
    given_few c.args.any_run c.args.unknown_zero c.args.givens.now (table_codes c.args.tables.items) HoldsTables (λ x. length x.methods.items)
    (λ x trees es h. sym (as_many x.space x.methods.items) ∙ ap length h.methods) c.load_each.result (inr (are_codes c.args.tables.items))
    c.load_each.ensures.gives

pub returns-clause-one : goal.returns-clause-one
returns-clause-one c =
    given_one c.args.any_run c.args.unknown_zero c.args.givens.now (table_codes c.args.tables.items) HoldsTables c.load_each.result c.load_each.ensures.gives

pub returns-clause-complete : goal.returns-clause-complete
returns-clause-complete c =
    given_complete c.args.any_run c.args.unknown_zero c.args.givens.now (table_codes c.args.tables.items) HoldsTables c.load_each.result c.load_each.ensures.gives

pub returns-clause-true_fault : goal.returns-clause-true_fault
returns-clause-true_fault c =
    given_true c.args.any_run c.args.unknown_zero c.args.givens.now (table_codes c.args.tables.items) HoldsTables c.load_each.result (inr (are_codes c.args.tables.items)) c.load_each.ensures.gives
