use Rattle.std.proofs.Common.{◌≡◌, ◌+◌, ◌++◌, length, drop}
use Rattle.aml_space.specs.Nodes.{chain, depths_of}
use Rattle.aml_space.proofs.growing.push_chain.Given as goal

abbrev pub invariant-loop-seg : goal.invariant-loop-seg
invariant-loop-seg l = record {
  long : length l.nodes.items ≡ length l.fn.nodes.items + l.seg-index;
  list : l.nodes.items ++ chain l.parent (length l.nodes.items) l.own l.depth (drop l.seg-index l.path) ≡ l.fn.nodes.items
      ++ chain l.fn.at (length l.fn.nodes.items) l.fn.top (depths_of l.fn.nodes.items l.fn.at + 1) l.path;
  deep : l.depth ≡ depths_of l.fn.nodes.items l.fn.at + 1 + l.seg-index;
  front : Rattle.std.proofs.Common.take (length l.fn.nodes.items) l.nodes.items ≡ l.fn.nodes.items;
}
