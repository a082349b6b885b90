use Rattle.std.proofs.Common.{Some, ap, ◌∙◌}
use Rattle.std.specs.FinMap as map
use Rattle.aml_space.specs.Nodes.{rows_ahead}
use Rattle.aml_space.proofs.Gathered.{rows_of_all}
use Rattle.aml_space.proofs.spaces.Space.in_order.Goals as goal

pub returns : goal.returns
returns c =
    c.new.ensures ∙ ap (λ ns. rows_ahead ns (Some 0)) c.as_slice.ensures.value
    ∙ rows_of_all c.self.inside.nodes.items c.self.invariant.index ∙ ap (λ k. map.entries k.declarations) c.self.view_is
