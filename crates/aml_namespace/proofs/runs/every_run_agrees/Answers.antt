use Rattle.aml_namespace.proofs.Agreeing.{every_run_agrees}
use Rattle.aml_namespace.proofs.runs.every_run_agrees.Goals as goal

pub returns : goal.returns
returns c = every_run_agrees
