use Rattle.std.proofs.Common.{List, ℕ, ◌≤◌, length, subst, sym}
use Rattle.aml_set.specs.Methods.{method_in}
use Rattle.aml_set.specs.Views.{codes_view}
use Rattle.aml_load.proofs.BodyLaws.{short_span}
use Rattle.aml_load.proofs.bodies.read_body.Goals as goal

pub read_span-requires : goal.read_span-requires
read_span-requires c = subst (λ (b : List ℕ). length b ≤ 16777216) (sym c.span_of.ensures)
    (short_span (codes_view c.args.tables.now) (method_in c.args.space.now c.args.method.now) c.requires)

pub returns-clause-reading : goal.returns-clause-reading
returns-clause-reading c es s = c.read_span.ensures.reading (codes_view c.args.tables.now) c.span_of.ensures es s

pub returns-clause-forward : goal.returns-clause-forward
returns-clause-forward c es s = c.read_span.ensures.forward (codes_view c.args.tables.now) c.span_of.ensures es s
