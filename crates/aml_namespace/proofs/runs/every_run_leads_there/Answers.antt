use Rattle.aml_namespace.proofs.Leading.{every_run_leads_there}
use Rattle.aml_namespace.proofs.runs.every_run_leads_there.Goals as goal

pub returns : goal.returns
returns c = every_run_leads_there
