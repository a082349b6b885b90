use Rattle.std.proofs.Common.{◌≡◌, length}
use Rattle.aml_children.specs.Children.{child_in, Rise}
use Rattle.aml_children.proofs.trees.Tree.node.Given as goal

abbrev pub invariant-forks : goal.invariant-forks
invariant-forks l = record {
  rise : Rise l.tree.0;
  same : child_in l.self.0 l.seg ≡ child_in l.tree.0 l.seg;
}

abbrev pub decreases-forks : goal.decreases-forks
decreases-forks l = length l.tree.0
