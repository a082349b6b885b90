use Rattle.std.proofs.Common.{◌≡◌, ◌<◌, length, drop}
use Rattle.aml_children.specs.Numbered.{walk}
use Rattle.aml_space.specs.Nodes.{kids_of}
use Rattle.aml_space.proofs.walking.node_from.Given as goal

abbrev pub invariant-loop-seg : goal.invariant-loop-seg
invariant-loop-seg l = record {
  led : walk (kids_of l.nodes) l.from l.segs ≡ walk (kids_of l.nodes) l.at (drop l.seg-index l.segs);
  within : l.at < length l.nodes;
}
