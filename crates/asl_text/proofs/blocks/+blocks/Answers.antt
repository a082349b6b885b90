use Rattle.asl_text.proofs.Common.{◌≡◌, ◌+◌, Some, List, ◌∷◌, ◌++◌, drop, sym, ap, ◌∙◌, add-one, drop-cons, Node}
use Rattle.asl_text.proofs.Common.{node_view, nodes_view, BodyLines, levels_in}
use Rattle.asl_text.proofs.Common.{all_levels, behind, term_lines, terms_lines, bodies_lines, prints_then}
use Rattle.asl_text.proofs.BlockLaws.{behind_both, table_turn}
use Rattle.asl_text.proofs.blocks.+blocks.Goals as goal

pub print_table_terms-loop-node-preserved : goal.print_table_terms-loop-node-preserved
print_table_terms-loop-node-preserved g t c =
    let f = g.W.Write.contents in
    let i = c.loop-node.node-index in
    let ns = c.args.nodes.now in
    let k = c.node-item.result in
    let code = c.args.code.now in
    let level = c.args.level in
    let bs = bodies_lines c.loop-node.rest in
    let cut : drop i ns ≡ k ∷ drop (i + 1) ns = rw add-one (drop-cons ns i k c.loop-node-test.true)
    ∙ ap (λ (n : Node). n ∷ drop (i + 1) ns) (sym c.node-item.is) in
    let done = c.loop-node.invariant.0 in
    let so_far = ap (λ (xs : List Node). done ++ terms_lines code (Some bs) level (nodes_view xs)) (sym cut) ∙ c.loop-node.invariant.2 in (
      done ++ term_lines code (Some bs) level (node_view k),
      prints_then f _ _ _ _ _ c.loop-node.invariant.1 c.print_table_term-rest.ensures.prints,
      table_turn code level k (drop (i + 1) ns) bs _ done _ c.print_table_term-rest.ensures.others so_far,
      ap (λ (r : List BodyLines). behind (all_levels level (nodes_view (drop (i + 1) ns))) r) c.print_table_term-rest.ensures.others
          ∙ behind_both (levels_in level (node_view k)) (all_levels level (nodes_view (drop (i + 1) ns))) bs
          ∙ ap (λ (xs : List Node). behind (all_levels level (nodes_view xs)) bs) (sym cut) ∙ c.loop-node.invariant.3,
    )
