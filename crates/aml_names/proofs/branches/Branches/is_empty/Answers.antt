use Rattle.std.proofs.Common.{map, sym, ap, ◌∙◌}
use Rattle.std.proofs.lemmas.List.{length-map}
use Rattle.aml_names.specs.Branches.{whole, Branched}
use Rattle.aml_names.proofs.Sets.{no_keys, empty_of}
use Rattle.aml_names.proofs.branches.Branches.is_empty.Goals as goal

pub returns : goal.returns
returns g c =
    let own = c.self.inside in
    let keys = own.kept.keys in
    let paths = ap (λ (k : Branched). k.paths) c.self.view_is in (
      (λ t. sym paths ∙ empty_of (map (whole (g.S.Stand.path own.scope)) keys) (length-map keys (whole (g.S.Stand.path own.scope)) ∙ c.is_empty.ensures.0 t)),
      (λ e. c.is_empty.ensures.1 (sym (length-map keys (whole (g.S.Stand.path own.scope))) ∙ no_keys (map (whole (g.S.Stand.path own.scope)) keys) (paths ∙ e))),
    )
