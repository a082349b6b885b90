use Rattle.std.proofs.Common.{rules}
use Rattle.aml_children.proofs.trees.lift_left.Goals as goal

pub returns : goal.returns
returns c = search rules
