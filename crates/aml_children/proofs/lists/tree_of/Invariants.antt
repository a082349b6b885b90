use Rattle.std.proofs.Common.{◌≡◌, ◌≤◌, take}
use Rattle.aml_children.proofs.lists.tree_of.Given as goal

abbrev pub invariant-loop-child : goal.invariant-loop-child
invariant-loop-child l = record {
  list : l.tree.0 ≡ take l.child-index l.children;
  low : l.tree.1 ≤ l.child-index;
}
