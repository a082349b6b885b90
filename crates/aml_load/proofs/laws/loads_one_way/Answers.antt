use Rattle.aml_load.proofs.Loads.{loads_one_way, are_spelled}
use Rattle.aml_load.proofs.laws.loads_one_way.Goals as goal

pub returns-clause-one : goal.returns-clause-one
returns-clause-one c any z gs tables = loads_one_way any z gs tables

pub returns-clause-spelled : goal.returns-clause-spelled
returns-clause-spelled c any z gs tables = are_spelled any z gs tables
