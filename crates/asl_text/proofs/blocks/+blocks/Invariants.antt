use Rattle.asl_text.proofs.Common.{◌≡◌, ℕ, Some, List, ◌++◌, drop, nodes_view, Prints, all_levels, behind, terms_lines}
use Rattle.asl_text.proofs.Common.{bodies_lines}
use Rattle.asl_text.proofs.blocks.+blocks.Given as goal

abbrev pub invariant-print_table_terms-loop-node : goal.invariant-print_table_terms-loop-node
invariant-print_table_terms-loop-node g l =
    (done : List ℕ) × Prints g.W.Write.contents l.initial.out l.out done
    × (done ++ terms_lines l.code (Some (bodies_lines l.rest)) l.level (nodes_view (drop l.node-index l.nodes))
    ≡ terms_lines l.code (Some (bodies_lines l.bodies)) l.level (nodes_view l.nodes))
    × (behind (all_levels l.level (nodes_view (drop l.node-index l.nodes))) (bodies_lines l.rest)
    ≡ behind (all_levels l.level (nodes_view l.nodes)) (bodies_lines l.bodies))
