use Rattle.std.proofs.Common.{IfSome, length, sym, ap, subst, ◌∙◌, ◌<◌}
use Rattle.aml_namespace.specs.Runs.{agreed_path}
use Rattle.aml_namespace.specs.Known.{outlook_in, path_at}
use Rattle.aml_namespace.proofs.Stands.{same_outlook}
use Rattle.aml_space.specs.Below.{path_behind}
use Rattle.aml_space.proofs.Targets.{paths_long}
use Rattle.aml_space.proofs.spaces.Space.lead_from.Goals as goal

pub returns-clause-known : goal.returns-clause-known
returns-clause-known c =
    let here = c.scope_at-here in
    let name = c.args.name.now in
    ap (λ paths. path_behind paths name.segs c.numbered.result) (sym here.ensures.paths) ∙ c.numbered.ensures.path name.segs
    ∙ c.in_ok-front.ensures.led
    ∙ (λ i. agreed_path (outlook_in (here.ensures.known i)) (here.ensures.path i) name)

pub returns-clause-listed : goal.returns-clause-listed
returns-clause-listed c = λ es stands. returns-clause-known c
    ∙ ap (λ o. agreed_path o (path_at c.args.self.now c.args.scope) c.args.name.now) (same_outlook c.args.self.now es stands)

pub returns-clause-within : goal.returns-clause-within
returns-clause-within c = subst (λ n. IfSome c.numbered.result (λ id. id < n))
    (sym (paths_long c.scope_at-here.result.nodes.now) ∙ ap length c.scope_at-here.ensures.paths) c.numbered.ensures.within
