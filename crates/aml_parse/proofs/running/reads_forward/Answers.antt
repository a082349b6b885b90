use Rattle.aml_parse.proofs.Forward.{table_tells, table_again}
use Rattle.aml_parse.proofs.running.reads_forward.Goals as goal

pub returns-clause-found : goal.returns-clause-found
returns-clause-found g c names code = table_tells names code

pub returns-clause-again : goal.returns-clause-again
returns-clause-again g c names code = table_again names code
