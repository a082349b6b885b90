use Rattle.std.proofs.Common.{◌-◌, length}
use Rattle.aml_space.specs.Candidates.{AreWays}
use Rattle.aml_space.proofs.ways.Ways.fill.Given as goal

abbrev pub invariant-loop-self : goal.invariant-loop-self
invariant-loop-self l = AreWays l.nodes l.self

abbrev pub decreases-loop-self : goal.decreases-loop-self
decreases-loop-self l = length l.nodes - length l.self.steps.items
