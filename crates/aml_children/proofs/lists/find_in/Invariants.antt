use Rattle.std.proofs.Common.{◌≡◌, drop}
use Rattle.aml_children.specs.Children.{child_in}
use Rattle.aml_children.proofs.lists.find_in.Given as goal

abbrev pub invariant-loop-child : goal.invariant-loop-child
invariant-loop-child l = record {
  same : child_in l.children l.seg ≡ child_in (drop l.child-index l.children) l.seg;
  few : l.compared ≡ l.child-index;
}
