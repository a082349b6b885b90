use Rattle.std.proofs.Common.{rules}
use Rattle.aml_namespace.proofs.Stands.{kind_listed}
use Rattle.aml_space.proofs.spaces.Space.kind_counted.Goals as goal

pub returns-clause-known : goal.returns-clause-known
returns-clause-known c = search rules

pub returns-clause-listed : goal.returns-clause-listed
returns-clause-listed c = λ es stands. kind_listed c.args.self.now es c.args.path.now _ stands (returns-clause-known c)
