use Rattle.std.proofs.Common.{◌≡◌, ℕ, ◌≤◌, length, IfSome}
use Rattle.aml_names.specs.Searching.{upward}
use Rattle.aml_space.specs.Candidates.{path_in, outlook_at, IsNextWith}
use Rattle.aml_namespace.specs.Runs.{counts_met}
use Rattle.aml_namespace.specs.Tallies.{joined, counts_in}
use Rattle.aml_space.proofs.scopes.Scope.counts.Given as goal

abbrev pub invariant-levels : goal.invariant-levels
invariant-levels g l = (from : ℕ) × record {
  within : from ≤ length (path_in l.self);
  above : IfSome l.nearest (λ n. n ≤ from);
  next : IsNextWith l.self l.segment from l.level;
  same : counts_in (counts_met (outlook_at l.self) (g.L.Seen.paths l.locals) (upward (length (path_in l.self)) (path_in l.self) l.segment))
      ≡ joined l.counts (counts_in (counts_met (outlook_at l.self) (g.L.Seen.paths l.locals) (upward from (path_in l.self) l.segment)));
}

abbrev pub decreases-levels : goal.decreases-levels
decreases-levels g l = l.level.depth
