use Rattle.std.proofs.Common.{◌≡◌, ◌++◌, take, drop}
use Rattle.aml_children.specs.Children.{put}
use Rattle.aml_children.proofs.lists.place_of.Given as goal

abbrev pub invariant-loop-place : goal.invariant-loop-place
invariant-loop-place l = put l.children l.child ≡ take l.place l.children ++ put (drop l.place l.children) l.child
