use Rattle.std.proofs.Common.{◌≡◌, length}
use Rattle.std.specs.Option.{option_or}
use Rattle.aml_children.specs.Children.{behind, first_node, Rise}
use Rattle.aml_children.proofs.trees.Tree.after.Given as goal

abbrev pub invariant-forks : goal.invariant-forks
invariant-forks l = record {
  rise : Rise l.tree.0;
  same : first_node (behind l.seg l.self.0) ≡ option_or (first_node (behind l.seg l.tree.0)) l.found;
}

abbrev pub decreases-forks : goal.decreases-forks
decreases-forks l = length l.tree.0
