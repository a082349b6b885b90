use Rattle.std.proofs.Common.{rules}
use Rattle.aml_load.proofs.faults.LoadFault.in_code.Goals as goal

pub returns-in_default : goal.returns-in_default
returns-in_default c = search rules
