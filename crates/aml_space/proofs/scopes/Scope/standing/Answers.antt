use Rattle.std.proofs.Common.{sym}
use Rattle.aml_namespace.proofs.NotPredefined.{predefined_deep}
use Rattle.aml_space.specs.Candidates.{path_in}
use Rattle.aml_space.proofs.scopes.Scope.standing.Goals as goal

pub returns-else-depth-eq0 : goal.returns-else-depth-eq0
returns-else-depth-eq0 c = λ paths. sym (predefined_deep c.args.depth (path_in c.args.self.now) c.args.segment.now c.if-depth-eq0.false c.requires.within c.requires.one)
