use Rattle.std.proofs.Common.{◌≡◌, ◌<◌, length}
use Rattle.aml_space.specs.Nodes.{kids_of, links_of}
use Rattle.aml_children.specs.Numbered.{up}
use Rattle.aml_space.proofs.listing.node_behind.Given as goal

abbrev pub invariant-levels : goal.invariant-levels
invariant-levels l = record {
  within : l.at < length l.nodes;
  same : up (kids_of l.nodes) (links_of l.nodes) l.from ≡ up (kids_of l.nodes) (links_of l.nodes) l.at;
}

abbrev pub decreases-levels : goal.decreases-levels
decreases-levels l = l.at
