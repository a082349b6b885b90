use Rattle.std.proofs.Common.{◌≡◌, ℕ, ◌≤◌, length, IfSome}
use Rattle.std.specs.Option.{option_map}
use Rattle.aml_names.specs.Searching.{upward}
use Rattle.aml_space.specs.declared.scopes.Candidate.{Candidate}
use Rattle.aml_namespace.specs.Namespace.{first_of}
use Rattle.aml_space.specs.Candidates.{path_in, names_of, IsCandidate, IsNextWith}
use Rattle.aml_namespace.proofs.Upward.{rest_of}
use Rattle.aml_space.proofs.scopes.Scope.search.Given as goal

abbrev pub invariant-levels : goal.invariant-levels
invariant-levels g l = (from : ℕ) × record {
  within : from ≤ length (path_in l.self);
  above : IfSome l.nearest (λ n. n ≤ from);
  next : IsNextWith l.self l.segment from l.level;
  outside : IfSome l.outside (IsCandidate l.self.nodes.now (g.L.Seen.paths l.locals) (path_in l.self) l.segment);
  same : first_of (names_of l.self) (g.L.Seen.paths l.locals) (upward (length (path_in l.self)) (path_in l.self) l.segment)
      ≡ rest_of (names_of l.self) (g.L.Seen.paths l.locals) (path_in l.self) l.segment (option_map (λ (c : Candidate). c.depth) l.outside)
      (upward from (path_in l.self) l.segment);
}

abbrev pub decreases-levels : goal.decreases-levels
decreases-levels g l = l.level.depth
