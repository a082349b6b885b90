use Rattle.std.proofs.Common.{◌≡◌, ℕ, ◌≤◌, length}
use Rattle.aml_names.specs.Searching.{upward}
use Rattle.aml_namespace.specs.Namespace.{first_count}
use Rattle.aml_space.specs.Candidates.{path_in, names_of, aside_in, IsNextWith}
use Rattle.aml_space.proofs.scopes.Scope.first_count.Given as goal

abbrev pub invariant-levels : goal.invariant-levels
invariant-levels l = (from : ℕ) × record {
  within : from ≤ length (path_in l.self);
  next : IsNextWith l.self l.segment from l.level;
  same : first_count (aside_in l.fn.aside (names_of l.self)) (upward (length (path_in l.self)) (path_in l.self) l.segment)
      ≡ first_count (aside_in l.fn.aside (names_of l.self)) (upward from (path_in l.self) l.segment);
}

abbrev pub decreases-levels : goal.decreases-levels
decreases-levels l = l.level.depth
