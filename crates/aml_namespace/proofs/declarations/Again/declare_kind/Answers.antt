use Rattle.std.proofs.Common.{◌∷◌, sym, ap, ◌∙◌}
use Rattle.aml_namespace.specs.Tallies.{tally_of}
use Rattle.aml_namespace.proofs.declarations.Again.declare_kind.Goals as goal

pub returns-clause-tally : goal.returns-clause-tally
returns-clause-tally c = λ first was.
    c.with-tally.ensures (first ∷ c.args.self.now.others.items) was ∙ ap (λ ks. tally_of (first ∷ ks)) (sym c.in_ok-push.ensures.items)
