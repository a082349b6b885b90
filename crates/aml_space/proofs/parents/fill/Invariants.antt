use Rattle.std.proofs.Common.{◌≡◌, ◌<◌, ◌≤◌, ◌++◌, length, take, drop}
use Rattle.aml_space.specs.Nodes.{path_of}
use Rattle.aml_space.proofs.parents.fill.Given as goal

abbrev pub invariant-loop-place : goal.invariant-loop-place
invariant-loop-place l = record {
  within : l.at < length l.nodes;
  few : l.place ≤ l.count;
  long : length l.buffer ≡ length l.initial.buffer;
  filled : path_of l.nodes l.at ++ drop l.place (take l.count l.buffer) ≡ path_of l.nodes l.from;
}

abbrev pub decreases-loop-place : goal.decreases-loop-place
decreases-loop-place l = l.place
