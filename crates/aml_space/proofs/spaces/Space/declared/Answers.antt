use Rattle.std.proofs.Common.{sym, ap, ◌∙◌}
use Rattle.std.specs.Option.{option_map}
use Rattle.aml_namespace.specs.Kinds.{kind_in}
use Rattle.aml_namespace.specs.Known.{Known, namespace_in}
use Rattle.aml_space.specs.Nodes.{paths_in}
use Rattle.aml_space.proofs.Index.{kind_met}
use Rattle.aml_space.specs.Below.{path_below}
use Rattle.aml_space.proofs.Reaching.{seen_below}
use Rattle.aml_space.proofs.spaces.Space.declared.Goals as goal

pub returns : goal.returns
returns c = ap (λ paths. option_map (kind_in paths) c.kind_at.result)
    (sym (ap (λ (k : Known). k.paths) c.self.view_is) ∙ sym (ap paths_in c.as_slice-nodes.ensures.value))
    ∙ kind_met _ _ _ _ _ _ c.kind_at.ensures c.node_below.ensures.node c.as_slice-nodes.ensures.value
    (seen_below _ _ c.args.self.now c.args.path.now c.as_slice-nodes.ensures.value c.self.view_is) c.self.invariant.index.shape
    ∙ ap (λ k. (namespace_in k).declared (path_below c.args.self.now.paths c.args.path.now)) c.self.view_is
