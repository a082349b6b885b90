use Rattle.aml_parse.proofs.Common.{arith}
use Rattle.aml_code.specs.View.{nodes_view}
use Rattle.aml_parse.proofs.Readings.{body_said}
use Rattle.aml_parse.proofs.body.parse_body.Goals as goal

pub returns-clause-sound : goal.returns-clause-sound
returns-clause-sound g c = (body_said (λ nodes. nodes_view nodes.items) (g.A.Arity.arity c.args.arity.now) c.args.scope.now c.args.code.now c.body_terms.result
    (λ i. omega (arith, c.type_inv.code i)) (c.body_terms.ensures)).0

pub returns-clause-one : goal.returns-clause-one
returns-clause-one g c = (body_said (λ nodes. nodes_view nodes.items) (g.A.Arity.arity c.args.arity.now) c.args.scope.now c.args.code.now c.body_terms.result
    (λ i. omega (arith, c.type_inv.code i)) (c.body_terms.ensures)).1

pub returns-clause-complete : goal.returns-clause-complete
returns-clause-complete g c = (body_said (λ nodes. nodes_view nodes.items) (g.A.Arity.arity c.args.arity.now) c.args.scope.now c.args.code.now c.body_terms.result
    (λ i. omega (arith, c.type_inv.code i)) (c.body_terms.ensures)).2

pub returns-clause-placed : goal.returns-clause-placed
returns-clause-placed g c = (body_said (λ nodes. nodes_view nodes.items) (g.A.Arity.arity c.args.arity.now) c.args.scope.now c.args.code.now c.body_terms.result
    (λ i. omega (arith, c.type_inv.code i)) (c.body_terms.ensures)).3
