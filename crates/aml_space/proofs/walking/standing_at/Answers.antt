use Rattle.std.proofs.Common.{ℕ, [], ◌∷◌, sym, ap, ◌∙◌}
use Rattle.aml_names.specs.declared.segments.Seg.{Seg}
use Rattle.aml_namespace.specs.Predefined.{predefined}
use Rattle.aml_space.proofs.Named.{only_segment}
use Rattle.aml_space.proofs.walking.standing_at.Goals as goal

pub returns-in-1 : goal.returns-in-1
returns-in-1 c = λ paths.
    let ns = c.args.nodes.now in
    c.predefined_kind-in-1.ensures paths ∙ ap predefined (ap (λ (l : ℕ × Seg). l.1 ∷ []) c.link.ensures
    ∙ sym (only_segment ns c.requires.index c.args.at c.requires.within
    (sym (c.requires.index.deep c.args.at c.requires.within) ∙ sym c.depth_at.ensures ∙ c.in-1.is)))
