use Rattle.std.proofs.Common.{IfSome, length, sym, ap, subst, ◌∙◌, ◌<◌}
use Rattle.std.specs.FinSet as set
use Rattle.aml_namespace.specs.Namespace.{found}
use Rattle.aml_namespace.specs.Known.{namespace_in}
use Rattle.aml_namespace.proofs.Stands.{found_listed}
use Rattle.aml_space.specs.Below.{path_behind}
use Rattle.aml_space.proofs.Targets.{paths_long}
use Rattle.aml_space.proofs.spaces.Space.find_from.Goals as goal

pub returns-clause-known : goal.returns-clause-known
returns-clause-known c =
    let here = c.scope_at-here in
    let name = c.args.name.now in
    ap (λ paths. path_behind paths name.segs c.numbered.result) (sym here.ensures.paths) ∙ c.numbered.ensures.path name.segs
    ∙ c.in_ok-front.ensures.found
    ∙ (λ i. found (namespace_in (here.ensures.known i)) set.empty (here.ensures.path i) name)

pub returns-clause-listed : goal.returns-clause-listed
returns-clause-listed c = λ es stands. found_listed c.args.self.now es set.empty _ c.args.name.now _ stands (returns-clause-known c)

pub returns-clause-within : goal.returns-clause-within
returns-clause-within c = subst (λ n. IfSome c.numbered.result (λ id. id < n))
    (sym (paths_long c.scope_at-here.result.nodes.now) ∙ ap length c.scope_at-here.ensures.paths) c.numbered.ensures.within
