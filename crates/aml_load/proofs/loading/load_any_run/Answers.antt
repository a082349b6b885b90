use Rattle.std.proofs.Common.{true, length, sym, ap, ◌∙◌}
use Rattle.aml_set.specs.Views.{codes_view}
use Rattle.aml_set.proofs.MethodLaws.{as_many}
use Rattle.aml_load.specs.Views.{HoldsLoad}
use Rattle.aml_load.proofs.Loads.{given_sound, given_few, given_one, given_complete, given_true, given_short}
use Rattle.aml_load.proofs.loading.load_any_run.Goals as goal

pub returns-clause-sound : goal.returns-clause-sound
returns-clause-sound c =
    given_sound true c.args.unknown_zero c.args.givens.now (codes_view c.args.tables.now) HoldsLoad c.load_lists.result c.load_lists.ensures.bytes c.load_lists.ensures.gives

pub returns-clause-few : goal.returns-clause-few
returns-clause-few c =
    given_few true c.args.unknown_zero c.args.givens.now (codes_view c.args.tables.now) HoldsLoad (λ x. length x.methods.items)
    (λ x trees es h. sym (as_many x.space x.methods.items) ∙ ap length h.methods) c.load_lists.result c.load_lists.ensures.bytes
    c.load_lists.ensures.gives

pub returns-clause-one : goal.returns-clause-one
returns-clause-one c =
    given_one true c.args.unknown_zero c.args.givens.now (codes_view c.args.tables.now) HoldsLoad c.load_lists.result c.load_lists.ensures.gives

pub returns-clause-complete : goal.returns-clause-complete
returns-clause-complete c =
    given_complete true c.args.unknown_zero c.args.givens.now (codes_view c.args.tables.now) HoldsLoad c.load_lists.result c.load_lists.ensures.gives

pub returns-clause-true_fault : goal.returns-clause-true_fault
returns-clause-true_fault c =
    given_true true c.args.unknown_zero c.args.givens.now (codes_view c.args.tables.now) HoldsLoad c.load_lists.result c.load_lists.ensures.bytes c.load_lists.ensures.gives

pub returns-clause-short : goal.returns-clause-short
returns-clause-short c =
    given_short true c.args.unknown_zero c.args.givens.now (codes_view c.args.tables.now) c.load_lists.result c.requires c.load_lists.ensures.gives
