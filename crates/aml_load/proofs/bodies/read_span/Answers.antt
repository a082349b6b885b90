use Rattle.std.proofs.Common.{arith}
use Rattle.aml_code.specs.View.{nodes_view}
use Rattle.aml_namespace.specs.Known.{of_paths}
use Rattle.aml_namespace.proofs.Stands.{stands_alone}
use Rattle.aml_set.specs.Methods.{method_in}
use Rattle.aml_load.proofs.BodyLaws.{reading_is, forward_is}
use Rattle.aml_load.proofs.bodies.read_span.Goals as goal

pub returns-clause-reading : goal.returns-clause-reading
returns-clause-reading c tables is es s =
    let k = c.args.space.now in
    reading_is (λ nodes. nodes_view nodes.items) _ (of_paths k) es tables (method_in k c.args.method.now) c.args.unknown_zero
    c.args.bytes.now c.body_terms.result c.numbered-names.ensures (stands_alone k es s) is (λ i. omega (arith, c.type_inv.bytes i))
    c.body_terms.ensures

pub returns-clause-forward : goal.returns-clause-forward
returns-clause-forward c tables is es s =
    let k = c.args.space.now in
    forward_is (λ nodes. nodes_view nodes.items) _ (of_paths k) es tables (method_in k c.args.method.now) c.args.unknown_zero
    c.args.bytes.now c.body_terms.result c.numbered-names.ensures (stands_alone k es s) is c.body_terms.ensures
