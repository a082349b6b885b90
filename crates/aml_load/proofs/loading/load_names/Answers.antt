use Rattle.std.proofs.Common.{inr, length, sym, ap, ◌∙◌}
use Rattle.aml_set.specs.Views.{table_codes}
use Rattle.aml_set.proofs.TableLaws.{are_codes}
use Rattle.aml_set.proofs.MethodLaws.{as_many}
use Rattle.aml_load.specs.Views.{HoldsKept}
use Rattle.aml_load.proofs.Loads.{given_sound, given_few, given_one, given_complete, given_true}
use Rattle.aml_load.proofs.loading.load_names.Goals as goal

pub returns-clause-sound : goal.returns-clause-sound
returns-clause-sound g c =
    given_sound c.args.rules.any_run c.args.rules.unknown_zero c.args.rules.givens.now (table_codes c.args.tables.items) (HoldsKept g.S.TableSink.keeps c.args.sink.now) c.hear_each.result (inr (are_codes c.args.tables.items)) c.hear_each.ensures.gives

pub returns-clause-few : goal.returns-clause-few
returns-clause-few g c =
    given_few c.args.rules.any_run c.args.rules.unknown_zero c.args.rules.givens.now (table_codes c.args.tables.items) (HoldsKept g.S.TableSink.keeps c.args.sink.now) (λ x. length x.0.methods.items)
    (λ x trees es h. sym (as_many x.0.space x.0.methods.items) ∙ ap length h.names.methods) c.hear_each.result (inr (are_codes c.args.tables.items))
    c.hear_each.ensures.gives

pub returns-clause-one : goal.returns-clause-one
returns-clause-one g c =
    given_one c.args.rules.any_run c.args.rules.unknown_zero c.args.rules.givens.now (table_codes c.args.tables.items) (HoldsKept g.S.TableSink.keeps c.args.sink.now) c.hear_each.result c.hear_each.ensures.gives

pub returns-clause-complete : goal.returns-clause-complete
returns-clause-complete g c =
    given_complete c.args.rules.any_run c.args.rules.unknown_zero c.args.rules.givens.now (table_codes c.args.tables.items) (HoldsKept g.S.TableSink.keeps c.args.sink.now) c.hear_each.result c.hear_each.ensures.gives

pub returns-clause-true_fault : goal.returns-clause-true_fault
returns-clause-true_fault g c =
    given_true c.args.rules.any_run c.args.rules.unknown_zero c.args.rules.givens.now (table_codes c.args.tables.items) (HoldsKept g.S.TableSink.keeps c.args.sink.now) c.hear_each.result (inr (are_codes c.args.tables.items)) c.hear_each.ensures.gives
