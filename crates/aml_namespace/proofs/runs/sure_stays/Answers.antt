use Rattle.aml_namespace.proofs.Frozen.{sure_stays}
use Rattle.aml_namespace.proofs.runs.sure_stays.Goals as goal

pub returns : goal.returns
returns c = sure_stays
