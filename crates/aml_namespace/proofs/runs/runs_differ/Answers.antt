use Rattle.aml_namespace.proofs.Showing.{each_is_met, runs_differ}
use Rattle.aml_namespace.proofs.runs.runs_differ.Goals as goal

pub returns-clause-each : goal.returns-clause-each
returns-clause-each c = each_is_met

pub returns-clause-differ : goal.returns-clause-differ
returns-clause-differ c = runs_differ
