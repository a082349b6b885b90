use Rattle.std.proofs.Common.{[], ◌∷◌, map, sym, ap, subst, ◌∙◌}
use Rattle.std.specs.Option.{option_copied}
use Rattle.std.specs.FinSet as set
use Rattle.aml_names.specs.Paths.{path_cmp}
use Rattle.aml_names.specs.Branches.{whole, Branched}
use Rattle.aml_names.specs.Searching.{IsKnown, nearest}
use Rattle.aml_names.proofs.EndLaws.{nearest_none}
use Rattle.aml_names.proofs.branches.Branches.nearest.Goals as goal

pub returns-in-None : goal.returns-in-None
returns-in-None g c =
    let own = c.self.inside in
    let e = c.args.segment in
    let paths = set.from_list {R = path_cmp} (map (whole (g.S.Stand.path own.scope)) own.kept.keys) in
    sym (ap (λ (k : Branched). nearest k.paths k.scope (e ∷ [])) (sym c.self.view_is)
    ∙ nearest_none paths (g.S.Stand.path own.scope) (g.S.Stand.path own.scope) e (subst (IsKnown paths (g.S.Stand.path own.scope) e) (sym c.get.ensures.value ∙ ap option_copied c.in-None.is) (c.self.invariant.1 e)))

pub returns-in-Some : goal.returns-in-Some
returns-in-Some g c =
    let own = c.self.inside in
    let e = c.args.segment in
    let paths = set.from_list {R = path_cmp} (map (whole (g.S.Stand.path own.scope)) own.kept.keys) in
    subst (IsKnown paths (g.S.Stand.path own.scope) e) (sym c.get.ensures.value ∙ ap option_copied c.in-Some.is) (c.self.invariant.1 e)
    ∙ ap (λ (k : Branched). nearest k.paths k.scope (e ∷ [])) c.self.view_is
