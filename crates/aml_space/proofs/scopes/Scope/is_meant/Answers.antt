use Rattle.aml_space.specs.Candidates.{path_in}
use Rattle.aml_space.proofs.scopes.Scope.is_meant.Goals as goal

pub has_below-requires : goal.has_below-requires
has_below-requires g c = (path_in c.args.self.now, c.requires.seen, c.requires.within)
