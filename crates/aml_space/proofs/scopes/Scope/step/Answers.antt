use Rattle.aml_space.proofs.Skipping.{above_over}
use Rattle.aml_space.proofs.scopes.Scope.step.Goals as goal

pub returns-then-over-level-clause-above : goal.returns-then-over-level-clause-above
returns-then-over-level-clause-above c =
    above_over c.args.self.now c.requires.scope c.args.level c.over-over.result c.args.floor c.requires.level c.over-over.ensures c.if-floor-over.true
