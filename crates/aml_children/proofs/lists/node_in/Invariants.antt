use Rattle.std.proofs.Common.{◌≡◌, drop}
use Rattle.aml_children.specs.Children.{child_in}
use Rattle.aml_children.proofs.lists.node_in.Given as goal

abbrev pub invariant-loop-child : goal.invariant-loop-child
invariant-loop-child l = child_in l.children l.seg ≡ child_in (drop l.child-index l.children) l.seg
