use Rattle.std.proofs.Common.{rules, ◌∙◌}
use Rattle.std.specs.Ordering.{nat_cmp}
use Rattle.aml_names.proofs.SegmentOrder.{by_number}
use Rattle.aml_names.proofs.segments.in_order.Goals as goal

pub returns : goal.returns
returns c =
    c.cmp.ensures ∙ (λ i. nat_cmp (c.number.ensures i) (c.number-2.ensures i))
    ∙ by_number c.args.a.0 c.args.b.0 (search rules) (search rules) (search rules) (search rules)
