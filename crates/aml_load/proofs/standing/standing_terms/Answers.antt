use Rattle.aml_set.specs.Views.{trees_view}
use Rattle.aml_load.proofs.Founds.{refused}
use Rattle.aml_load.proofs.standing.standing_terms.Goals as goal

pub returns-clause-complete : goal.returns-clause-complete
returns-clause-complete c =
    refused c.found_terms.result c.args.any_run c.args.givens.now (trees_view c.args.trees.now) c.found_terms.ensures.forward
