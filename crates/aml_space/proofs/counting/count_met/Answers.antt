use Rattle.std.proofs.Common.{rules}
use Rattle.aml_space.proofs.counting.count_met.Goals as goal

pub returns-in-Some-Alias : goal.returns-in-Some-Alias
returns-in-Some-Alias c = search rules
