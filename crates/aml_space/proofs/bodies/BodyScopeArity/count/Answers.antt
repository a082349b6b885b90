use Rattle.std.proofs.Common.{◌≡◌, IfOk, sym, subst, ◌∙◌}
use Rattle.aml_namespace.specs.Runs.{agreed_arity}
use Rattle.aml_namespace.specs.Known.{outlook_in}
use Rattle.aml_namespace.proofs.Stands.{same_outlook}
use Rattle.aml_space.specs.Candidates.{path_in}
use Rattle.aml_space.proofs.bodies.BodyScopeArity.count.Goals as goal

pub count_name-requires-clause-seen : goal.count_name-requires-clause-seen
count_name-requires-clause-seen c = sym (c.scope_of-here.ensures.path ∙ c.segs.ensures)

pub returns-clause-known : goal.returns-clause-known
returns-clause-known c =
    let body = c.args.self.now in
    subst (λ p. IfOk c.count_name.result (λ count. count
    ≡ agreed_arity (outlook_in body.space.now) body.unknown_zero p c.args.locals.now c.args.name.now))
    (c.scope_of-here.ensures.path ∙ c.segs.ensures)
    (subst (λ k. IfOk c.count_name.result (λ count. count ≡ agreed_arity (outlook_in k)
    body.unknown_zero (path_in c.scope_of-here.result) c.args.locals.now c.args.name.now)) c.scope_of-here.ensures.known c.count_name.ensures)

pub returns-clause-listed : goal.returns-clause-listed
returns-clause-listed c = λ es stands.
    let body = c.args.self.now in
    subst (λ n. IfOk c.count_name.result (λ count. count ≡ agreed_arity n body.unknown_zero body.method.now c.args.locals.now c.args.name.now))
    (same_outlook body.space.now es stands) (returns-clause-known c)
