use Rattle.aml_text.proofs.Common.{◌≡◌, ◌++◌, drop, nodes_view, all_levels}
use Rattle.aml_text.proofs.levels.+levels.Given as goal

abbrev pub invariant-push_all_levels-loop-node : goal.invariant-push_all_levels-loop-node
invariant-push_all_levels-loop-node l =
    l.levels.items ++ all_levels l.level (nodes_view (drop l.node-index l.nodes)) ≡ l.initial.levels.items ++ all_levels l.level (nodes_view l.nodes)
