use Rattle.aml_runs.proofs.Following.{by_selections}
use Rattle.aml_runs.proofs.runs.every_run_of_tables_agrees.Goals as goal

pub returns : goal.returns
returns c z gs tables = by_selections c.every_run_agrees.ensures z gs tables (c.runs_are_selections.ensures z gs tables)
