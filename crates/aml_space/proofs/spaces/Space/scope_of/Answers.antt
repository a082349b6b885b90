use Rattle.std.proofs.Common.{ap, ◌∙◌}
use Rattle.aml_namespace.specs.Known.{namespace_in, outlook_in}
use Rattle.aml_space.specs.Nodes.{known_by}
use Rattle.aml_space.proofs.spaces.Space.scope_of.Goals as goal

pub returns-clause-names : goal.returns-clause-names
returns-clause-names c = ap (λ ns. namespace_in (known_by ns)) (c.new.ensures.nodes ∙ c.as_slice-nodes.ensures.value) ∙ ap namespace_in c.self.view_is

pub returns-clause-outlook : goal.returns-clause-outlook
returns-clause-outlook c = ap (λ ns. outlook_in (known_by ns)) (c.new.ensures.nodes ∙ c.as_slice-nodes.ensures.value) ∙ ap outlook_in c.self.view_is
