use Rattle.std.proofs.Common.{◌≡◌, ℕ, ◌≤◌, length}
use Rattle.std.specs.List.{find}
use Rattle.aml_names.specs.Searching.{upward}
use Rattle.aml_space.specs.Candidates.{path_in, names_of, IsNextWith}
use Rattle.aml_namespace.specs.Searching.{above}
use Rattle.aml_namespace.specs.Runs.{is_known}
use Rattle.aml_space.proofs.scopes.Scope.is_known_above.Given as goal

abbrev pub invariant-levels : goal.invariant-levels
invariant-levels l = (from : ℕ) × record {
  within : from ≤ length (path_in l.self);
  next : IsNextWith l.self l.segment from l.level;
  same : find (is_known (names_of l.self)) (above (path_in l.self) l.segment l.fn.below)
      ≡ find (is_known (names_of l.self)) (upward from (path_in l.self) l.segment);
}

abbrev pub decreases-levels : goal.decreases-levels
decreases-levels l = l.level.depth
