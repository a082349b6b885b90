use Rattle.std.proofs.Common.{◌≤◌}
use Rattle.aml_space.specs.Candidates.{IsLevel}
use Rattle.aml_space.proofs.scopes.Scope.level_at.Given as goal

abbrev pub invariant-steps : goal.invariant-steps
invariant-steps l = IsLevel l.self l.level × (l.depth ≤ l.level.depth)

abbrev pub decreases-steps : goal.decreases-steps
decreases-steps l = l.level.depth
