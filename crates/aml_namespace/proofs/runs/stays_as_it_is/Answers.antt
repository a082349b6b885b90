use Rattle.aml_namespace.proofs.Strict.{stays_as_it_is}
use Rattle.aml_namespace.proofs.runs.stays_as_it_is.Goals as goal

pub returns : goal.returns
returns c = stays_as_it_is
