use Rattle.aml_load.proofs.Loads.{loads_forward, loads_again}
use Rattle.aml_load.proofs.laws.loads_forward.Goals as goal

pub returns-clause-found : goal.returns-clause-found
returns-clause-found c any z gs tables = loads_forward any z gs tables

pub returns-clause-again : goal.returns-clause-again
returns-clause-again c any z gs tables = loads_again any z gs tables
