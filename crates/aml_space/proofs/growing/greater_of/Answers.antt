use Rattle.std.proofs.Common.{rules}
use Rattle.aml_space.proofs.growing.greater_of.Goals as goal

pub returns-in-Some : goal.returns-in-Some
returns-in-Some c = search rules
