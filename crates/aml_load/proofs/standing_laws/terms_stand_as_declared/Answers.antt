use Rattle.aml_load.proofs.Alone.{stand_as_declared}
use Rattle.aml_load.proofs.standing_laws.terms_stand_as_declared.Goals as goal

pub returns : goal.returns
returns c any z gs tables = stand_as_declared any z gs tables
