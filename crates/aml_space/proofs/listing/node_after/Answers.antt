use Rattle.std.proofs.Common.{◌<◌, length, sym, subst}
use Rattle.std.specs.Prelude.{IfSome}
use Rattle.aml_children.proofs.Visiting.{first_within}
use Rattle.aml_space.proofs.listing.node_after.Goals as goal

pub returns-in-None-clause-within : goal.returns-in-None-clause-within
returns-in-None-clause-within c =
    subst (λ o. IfSome o (λ i. i < length c.args.nodes.now)) (sym c.node_behind.ensures) (first_within c.requires.index.shape _)
