use Rattle.std.proofs.Common.{◌++◌, sym, ap, ◌∙◌}
use Rattle.aml_children.specs.Numbered.{walk}
use Rattle.aml_space.specs.Nodes.{kids_of}
use Rattle.aml_space.proofs.Reaching.{behind_led}
use Rattle.aml_space.proofs.walking.node_below.Goals as goal

pub returns-clause-node : goal.returns-clause-node
returns-clause-node c =
    let ns = c.args.nodes.now in
    c.node_from.ensures.node ∙ sym (behind_led ns c.requires c.numbered.result c.args.path.now.segs.now c.numbered.ensures.within)
    ∙ ap (λ p. walk (kids_of ns) 0 (p ++ c.args.path.now.segs.now)) c.numbered.ensures.path
