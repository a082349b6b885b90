use Rattle.std.proofs.Common.{◌≡◌, take}
use Rattle.aml_space.specs.Candidates.{path_in}
use Rattle.aml_space.proofs.scopes.Scope.to_path.Given as goal

abbrev pub invariant-loop-place : goal.invariant-loop-place
invariant-loop-place l = l.segs.items ≡ take l.place (path_in l.self)
