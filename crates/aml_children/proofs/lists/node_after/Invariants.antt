use Rattle.std.proofs.Common.{◌≡◌, drop}
use Rattle.aml_children.specs.Children.{behind}
use Rattle.aml_children.proofs.lists.node_after.Given as goal

abbrev pub invariant-loop-child : goal.invariant-loop-child
invariant-loop-child l = behind l.seg l.children ≡ behind l.seg (drop l.child-index l.children)
