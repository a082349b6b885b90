use Rattle.aml_parse.proofs.Forward.{table_spelled}
use Rattle.aml_parse.proofs.running.spells_table.Goals as goal

pub returns : goal.returns
returns g c names code = table_spelled names code
