use Rattle.std.proofs.Common.{IfSome, ◌<◌, length, sym, ap, subst, ◌∙◌}
use Rattle.aml_space.proofs.Targets.{paths_long}
use Rattle.aml_space.proofs.spaces.Space.above.Goals as goal

pub returns-clause-within : goal.returns-clause-within
returns-clause-within c = subst (λ n. IfSome c.numbered.result (λ id. id < n))
    (sym (paths_long c.scope_at-here.result.nodes.now) ∙ ap length c.scope_at-here.ensures.paths) c.numbered.ensures.within
