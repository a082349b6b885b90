use Rattle.asl_text.proofs.Common.{take, nodes_view, Prints, all_lines}
use Rattle.asl_text.proofs.lines.+lines.Given as goal

abbrev pub invariant-print_terms-loop-node : goal.invariant-print_terms-loop-node
invariant-print_terms-loop-node g l = Prints g.W.Write.contents l.initial.out l.out (all_lines l.level (nodes_view (take l.node-index l.nodes)))
