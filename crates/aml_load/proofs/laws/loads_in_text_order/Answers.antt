use Rattle.aml_load.proofs.Loads.{loads_in_text_order}
use Rattle.aml_load.proofs.laws.loads_in_text_order.Goals as goal

pub returns : goal.returns
returns c any z gs tables = loads_in_text_order any z gs tables
