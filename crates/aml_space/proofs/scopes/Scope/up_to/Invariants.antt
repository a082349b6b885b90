use Rattle.std.proofs.Common.{◌≤◌}
use Rattle.aml_space.specs.Candidates.{IsLevel, AreAbove}
use Rattle.aml_space.proofs.scopes.Scope.up_to.Given as goal

abbrev pub invariant-steps : goal.invariant-steps
invariant-steps l = record {
  level : IsLevel l.self l.at;
  higher : l.at.depth ≤ l.fn.level.depth;
  above : AreAbove l.self l.floor l.at.depth l.fn.level.depth;
}

abbrev pub decreases-steps : goal.decreases-steps
decreases-steps l = l.at.depth
