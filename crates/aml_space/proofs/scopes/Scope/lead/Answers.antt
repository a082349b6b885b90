use Rattle.std.proofs.Common.{◌++◌, Some, None, take, subst, IfSome, sym, ap, ◌∙◌, cond}
use Rattle.std.specs.Option.{option_map}
use Rattle.std.specs.FinSet as set
use Rattle.aml_names.specs.Paths.{path_cmp}
use Rattle.aml_space.specs.Candidates.{path_in, path_at, outlook_at, IsCandidate}
use Rattle.aml_namespace.proofs.Finding.{led, led_nowhere}
use Rattle.aml_space.proofs.scopes.Scope.lead.Goals as goal

pub returns-in-None-clause-led : goal.returns-in-None-clause-led
returns-in-None-clause-led c =
    let s = c.args.self.now in
    let found = ap (option_map (path_at (path_in s) c.args.segment.now)) (sym c.in-None.is) ∙ c.in_ok-search.ensures.found in
    sym (led_nowhere (outlook_at s) (path_in s) c.args.segment.now (sym found))

pub returns-then-may_lead_further-clause-led : goal.returns-then-may_lead_further-clause-led
returns-then-may_lead_further-clause-led c =
    let s = c.args.self.now in
    let d = c.in-Some.here.depth in
    let candidate = IsCandidate s.nodes.now set.empty (path_in s) c.args.segment.now in
    let within = (subst (λ o. IfSome o candidate) c.in-Some.is c.in_ok-search.ensures.met).within in
    let found = ap (option_map (path_at (path_in s) c.args.segment.now)) (sym c.in-Some.is) ∙ c.in_ok-search.ensures.found in
    sym (led (outlook_at s) (path_in s) c.args.segment.now d within (sym found)
    ∙ ap (λ b. cond b None (Some (take d (path_in s) ++ c.args.segment.now))) (sym c.may_lead_further.ensures ∙ c.if-may_lead_further.true))

pub returns-else-may_lead_further-clause-led : goal.returns-else-may_lead_further-clause-led
returns-else-may_lead_further-clause-led c =
    let s = c.args.self.now in
    let d = c.in-Some.here.depth in
    let candidate = IsCandidate s.nodes.now set.empty (path_in s) c.args.segment.now in
    let within = (subst (λ o. IfSome o candidate) c.in-Some.is c.in_ok-search.ensures.met).within in
    let found = ap (option_map (path_at (path_in s) c.args.segment.now)) (sym c.in-Some.is) ∙ c.in_ok-search.ensures.found in
    sym (led (outlook_at s) (path_in s) c.args.segment.now d within (sym found)
    ∙ ap (λ b. cond b None (Some (take d (path_in s) ++ c.args.segment.now))) (sym c.may_lead_further.ensures ∙ c.if-may_lead_further.false))

pub may_lead_further-requires-clause-node : goal.may_lead_further-requires-clause-node
may_lead_further-requires-clause-node c =
    let s = c.args.self.now in
    let candidate = IsCandidate s.nodes.now set.empty (path_in s) c.args.segment.now in
    let met = subst (λ o. IfSome o candidate) c.in-Some.is c.in_ok-search.ensures.met in
    met.node (met.local ∙ set.contains-empty path_cmp (take c.in-Some.here.depth (path_in s) ++ c.args.segment.now))
