use Rattle.std.proofs.Common.{take, [], refl, arith}
use Rattle.aml_children.proofs.Walks.{node_range}
use Rattle.aml_space.proofs.Skipping.{skipped}
use Rattle.aml_space.specs.Candidates.{path_in}
use Rattle.aml_space.proofs.scopes.Scope.skip.Goals as goal

pub before-requires : goal.before-requires
before-requires c =
    let inside = node_range c.requires.scope.index.shape (take c.args.level.depth (path_in c.args.self.now)) c.args.level.node c.requires.level.led in
    omega (arith, inside, c.requires.scope.index.few)

pub returns-in-None : goal.returns-in-None
returns-in-None c = record {
  level = record { within = omega arith; led = refl };
  next = skipped c.args.self.now c.requires.scope c.args.segment.now (record { 0 = [] }) c.args.level 0
      (omega (arith, c.if-len-self.false, c.len.ensures)) c.requires.one c.requires.level (omega arith)
      (λ e j more less led below. c.in-None.ensures j below tt);
}

pub returns-in-Some : goal.returns-in-Some
returns-in-Some c = record {
  level = c.up_to.ensures.level;
  next = skipped c.args.self.now c.requires.scope c.args.segment.now (record { 0 = [] }) c.args.level c.up_to.result.depth
      (omega (arith, c.if-len-self.false, c.len.ensures)) c.requires.one c.requires.level c.up_to.ensures.higher
      (λ e j more less led below. c.in-Some.ensures j below (c.up_to.ensures.above e j more less led));
}
