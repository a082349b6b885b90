use Rattle.std.proofs.Common.{refl}
use Rattle.aml_code.specs.Opcodes.{rows}
use Rattle.aml_code.proofs.table.table.Goals as goal

-- each row by computation
pub returns : goal.returns
unfolding rows
returns c = refl
