use Rattle.std.proofs.Common.{◌≡◌, ◌<◌, ◌∷◌, [], length, IfSome}
use Rattle.aml_space.specs.Nodes.{kids_of, links_of, rows_ahead}
use Rattle.aml_children.specs.Numbered.{ahead}
use Rattle.aml_space.proofs.listing.with_row.Given as goal

abbrev pub invariant-nodes : goal.invariant-nodes
invariant-nodes l = record {
  same : rows_ahead l.nodes l.next ≡ rows_ahead l.nodes l.fn.first;
  within : IfSome l.next (λ i. i < length l.nodes);
}

abbrev pub decreases-nodes : goal.decreases-nodes
decreases-nodes l = length (ahead (kids_of l.nodes) (links_of l.nodes) (λ k. k ∷ []) (length l.nodes) l.next)
