use Rattle.std.proofs.Common.{◌≡◌, length}
use Rattle.std.specs.Option.{option_or}
use Rattle.aml_children.specs.Children.{first_node}
use Rattle.aml_children.proofs.trees.Tree.first.Given as goal

abbrev pub invariant-forks : goal.invariant-forks
invariant-forks l = first_node l.self.0 ≡ option_or (first_node l.tree.0) l.found

abbrev pub decreases-forks : goal.decreases-forks
decreases-forks l = length l.tree.0
