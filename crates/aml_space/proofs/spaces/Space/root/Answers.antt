use Rattle.std.proofs.Common.{[], refl, sym, ap, ◌∙◌}
use Rattle.std.specs.Prelude.{slice_get}
use Rattle.aml_namespace.specs.Known.{Known}
use Rattle.aml_space.proofs.Keeping.{numbered}
use Rattle.aml_space.proofs.spaces.Space.root.Goals as goal

pub returns : goal.returns
returns c = ap (slice_get c.args.self.now.paths) c.root.ensures ∙ ap (λ (k : Known). slice_get k.paths 0) (sym c.self.view_is)
    ∙ numbered c.self.inside.nodes.items c.self.invariant.index [] 0 refl
