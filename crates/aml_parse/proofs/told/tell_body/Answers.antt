use Rattle.aml_parse.proofs.Common.{rules, arith, Ok, Err, Trees, subst, sym}
use Rattle.aml_code.specs.Pieces.{line_pieces}
use Rattle.aml_parse.proofs.Readings.{body_said}
use Rattle.aml_parse.proofs.told.tell_body.Goals as goal

pub returns-clause-told : goal.returns-clause-told
returns-clause-told g c =
    let x = c.in_ok-tell_terms.ensures.told in
    let said = body_said (λ (ts : Trees). ts) (g.A.Arity.arity c.args.arity.now) c.args.scope.now c.args.code.now (Ok x.0) (λ i. omega (arith, c.type_inv.code i)) x.1.0 in
    (x.0, (said.0, x.1.1))

pub returns-clause-one : goal.returns-clause-one
returns-clause-one g c =
    let x = c.in_ok-tell_terms.ensures.told in
    let said = body_said (λ (ts : Trees). ts) (g.A.Arity.arity c.args.arity.now) c.args.scope.now c.args.code.now (Ok x.0) (λ i. omega (arith, c.type_inv.code i)) x.1.0 in
    λ ts reads. subst (λ (t : Trees). g.S.Sink.grew c.args.sink.now c.tell_terms.new.sink (line_pieces c.args.level t)) (sym (said.1 ts reads)) x.1.1

pub returns-in_err-tell_terms-clause-complete : goal.returns-in_err-tell_terms-clause-complete
returns-in_err-tell_terms-clause-complete g c =
    let fails = c.in_err-tell_terms.ensures.fails in
    let known = (body_said (λ (ts : Trees). ts) (g.A.Arity.arity c.args.arity.now) c.args.scope.now c.args.code.now (Err c.in_err-tell_terms.field-0.0)
    (λ i. omega (arith, c.type_inv.code i)) fails).2 in
    search rules

pub returns-in_err-tell_terms-clause-placed : goal.returns-in_err-tell_terms-clause-placed
returns-in_err-tell_terms-clause-placed g c =
    let fails = c.in_err-tell_terms.ensures.fails in
    let known = (body_said (λ (ts : Trees). ts) (g.A.Arity.arity c.args.arity.now) c.args.scope.now c.args.code.now (Err c.in_err-tell_terms.field-0.0)
    (λ i. omega (arith, c.type_inv.code i)) fails).3 in
    search rules
