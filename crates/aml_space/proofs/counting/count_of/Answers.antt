use Rattle.std.proofs.Common.{ap, ◌∙◌}
use Rattle.aml_children.specs.Numbered.{walk}
use Rattle.aml_space.specs.Nodes.{kids_of, paths_in}
use Rattle.aml_namespace.specs.Predefined.{predefined}
use Rattle.aml_space.proofs.Meaning.{count_of_met}
use Rattle.aml_space.proofs.counting.count_of.Goals as goal

pub returns : goal.returns
returns c =
    let ns = c.args.nodes.now in
    c.count_met.ensures ∙ count_of_met ns c.requires.shape c.args.path.now c.node_from-node.result
    (c.node_from-node.ensures.node ∙ ap (walk (kids_of ns) 0) c.segs.ensures) _
    (c.predefined_kind.ensures (paths_in ns) ∙ ap predefined c.segs-2.ensures)
