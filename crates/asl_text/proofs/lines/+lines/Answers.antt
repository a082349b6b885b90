use Rattle.asl_text.proofs.Common.{◌+◌, ◌++◌, take, refl, sym, ap, subst, ◌∙◌, Node, node_view, nodes_view, Prints, prints_then}
use Rattle.asl_text.proofs.Common.{lines, all_lines}
use Rattle.asl_text.proofs.LineLaws.{terms_turned}
use Rattle.asl_text.proofs.lines.+lines.Goals as goal

pub print_terms-loop-node-preserved : goal.print_terms-loop-node-preserved
print_terms-loop-node-preserved g t c =
    let f = g.W.Write.contents in
    let i = c.loop-node.node-index in
    let ns = c.args.nodes.now in
    let level = c.args.level in
    let so_far = all_lines level (nodes_view (take i ns)) in
    let turned = terms_turned level ns i (i + 1) c.node-item.result refl c.loop-node-test.true in
    subst (Prints f c.args.out.now c.print_lines.new.out)
    (ap (λ (n : Node). so_far ++ lines level (node_view n)) c.node-item.is ∙ sym turned)
    (prints_then f _ _ _ _ _ c.loop-node.invariant c.print_lines.ensures)
