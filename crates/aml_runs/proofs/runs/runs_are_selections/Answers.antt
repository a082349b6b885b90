use Rattle.aml_runs.proofs.Following.{runs_are_selections}
use Rattle.aml_runs.proofs.runs.runs_are_selections.Goals as goal

pub returns : goal.returns
returns c z gs tables = runs_are_selections z gs tables
