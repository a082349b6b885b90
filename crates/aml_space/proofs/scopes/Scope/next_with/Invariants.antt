use Rattle.aml_space.specs.Candidates.{IsNextWith}
use Rattle.aml_space.proofs.scopes.Scope.next_with.Given as goal

abbrev pub invariant-loop-at : goal.invariant-loop-at
invariant-loop-at l = IsNextWith l.self l.segment l.fn.level.depth l.at

abbrev pub decreases-loop-at : goal.decreases-loop-at
decreases-loop-at l = l.at.depth
