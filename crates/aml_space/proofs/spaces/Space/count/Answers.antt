use Rattle.std.proofs.Common.{ap, ◌∙◌}
use Rattle.aml_namespace.specs.Namespace.{count_at}
use Rattle.aml_namespace.specs.Known.{namespace_in}
use Rattle.aml_space.specs.Nodes.{known_by}
use Rattle.aml_namespace.proofs.Stands.{count_listed}
use Rattle.aml_space.proofs.spaces.Space.count.Goals as goal

pub returns-clause-known : goal.returns-clause-known
returns-clause-known c =
    c.count_of.ensures
    ∙ ap (λ ns. count_at (namespace_in (known_by ns)) c.args.path.now) c.as_slice.ensures.value
    ∙ ap (λ k. count_at (namespace_in k) c.args.path.now) c.self.view_is

pub returns-clause-listed : goal.returns-clause-listed
returns-clause-listed c = λ es stands. count_listed c.args.self.now es c.args.path.now _ stands (returns-clause-known c)
