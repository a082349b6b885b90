use Rattle.aml_load.proofs.Strict.{loads_strictly}
use Rattle.aml_load.proofs.laws.loads_strictly.Goals as goal

pub returns : goal.returns
returns c z gs tables = loads_strictly c.stays_as_it_is.ensures z gs tables
