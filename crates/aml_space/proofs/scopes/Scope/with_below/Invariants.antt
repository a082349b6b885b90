use Rattle.std.proofs.Common.{ℕ, ◌-◌, ◌≤◌}
use Rattle.aml_space.specs.Candidates.{IsNextWith}
use Rattle.aml_space.proofs.scopes.Scope.with_below.Given as goal

abbrev pub invariant-loop-level : goal.invariant-loop-level
invariant-loop-level l = (from : ℕ) × (l.depth - 1 ≤ from) × IsNextWith l.self l.segment from l.level

abbrev pub decreases-loop-level : goal.decreases-loop-level
decreases-loop-level l = l.level.depth
