use Rattle.std.proofs.Common.{Some, sym, ap, ◌∙◌}
use Rattle.aml_namespace.specs.Namespace.{kind_at, target_count}
use Rattle.aml_namespace.specs.Known.{namespace_in}
use Rattle.aml_space.specs.Nodes.{known_by, path_of, paths_in}
use Rattle.aml_space.proofs.Meaning.{kind_of_met, out_of_met}
use Rattle.aml_space.proofs.counting.count_target.Goals as goal

pub returns : goal.returns
returns c =
    let ns = c.args.nodes.now in
    let at = c.numbered-node.result in
    let n = namespace_in (known_by ns) in
    let led = sym (c.requires.there at c.numbered-node.ensures.within) in
    c.count_of_target.ensures (paths_in ns) ∙ (λ i. target_count ((c.kind_met-kind.ensures
    ∙ kind_of_met ns c.requires.shape (path_of ns at) (Some at) led _ (c.standing_at.ensures (paths_in ns))) i)
    ((c.out_at.ensures ∙ out_of_met ns c.requires.shape (path_of ns at) (Some at) led) i))
    ∙ ap (λ q. target_count (kind_at n q) (n.outs q)) c.numbered-node.ensures.path
