use Rattle.std.proofs.Common.{arith}
use Rattle.std.proofs.lemmas.Grind.{elements}
use Rattle.aml_space.proofs.growing.set_declared.Goals as goal

pub returns : goal.returns
returns c = grind (arith, elements)
