use Rattle.std.proofs.Common.{◌≡◌, ◌++◌, ◌<◌, length}
use Rattle.aml_space.specs.Nodes.{path_of}
use Rattle.aml_space.proofs.growing.reach_from.Given as goal

abbrev pub invariant-steps : goal.invariant-steps
invariant-steps l = record {
  within : l.at < length l.nodes;
  path : path_of l.nodes l.at ++ l.left ≡ path_of l.nodes l.from ++ l.segs;
}

abbrev pub decreases-steps : goal.decreases-steps
decreases-steps l = length l.left
