use Rattle.std.proofs.Common.{◌<◌, length, take, sym, arith}
use Rattle.std.proofs.lemmas.List.{length-take-le}
use Rattle.aml_space.specs.Candidates.{path_in}
use Rattle.aml_space.proofs.Beyond.{predefined_long}
use Rattle.aml_space.proofs.scopes.Scope.standing_below.Goals as goal

pub returns : goal.returns
returns c =
    let front = take c.args.depth (path_in c.args.self.now) in
    let long = length-take-le c.args.depth (path_in c.args.self.now) c.requires.within in
    let deep : 1 < length front = omega (arith, long, c.if-depth-eq0.false, c.if-depth-eq1.false) in
    λ paths. sym (predefined_long front c.args.segs.now deep)
