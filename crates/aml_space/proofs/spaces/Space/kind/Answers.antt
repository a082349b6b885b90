use Rattle.std.proofs.Common.{◌∙◌}
use Rattle.aml_namespace.proofs.Stands.{kind_listed}
use Rattle.aml_space.proofs.spaces.Space.kind.Goals as goal

pub returns-clause-listed : goal.returns-clause-listed
returns-clause-listed c = λ es stands. kind_listed c.args.self.now es c.args.path.now _ stands (c.shown.ensures ∙ c.kind_by_number.ensures)
