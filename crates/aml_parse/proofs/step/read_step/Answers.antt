use Rattle.aml_parse.proofs.Common.{refl, sym, ap, ◌∙◌, inl, inr, ok_is, StandsAt, given_ok, given_err}
use Rattle.aml_parse.proofs.Steps.{step_reads, step_again}
use Rattle.aml_parse.proofs.step.read_step.Goals as goal

pub returns-clause-sound : goal.returns-clause-sound
returns-clause-sound g c =
    given_ok _ _ c.build.result _ c.build.ensures.read (λ x e.
    (step_reads _ _ _ _ _ _ c.build.ensures.bytes c.requires.inside.0 c.requires.inside.1 c.requires.ends c.requires.deep).ok _ e)

pub returns-clause-one : goal.returns-clause-one
returns-clause-one g c = given_ok _ _ c.build.result _ c.build.ensures.read (λ x e t behind h.
    let same = ok_is _ _ (sym (step_again _ _ _ _ _ _ t behind c.requires.inside.1 h) ∙ e) in (ap (λ y. y.0) same, ap (λ y. y.1) same))

pub returns-clause-complete : goal.returns-clause-complete
returns-clause-complete g c =
    given_err _ _ c.build.result _ c.build.ensures.read (inl refl)
    (λ d e. inr (λ t behind h. absurd (cc (step_again _ _ _ _ _ _ t behind c.requires.inside.1 h, e))))

pub returns-clause-placed : goal.returns-clause-placed
returns-clause-placed g c =
    given_err _ _ c.build.result (StandsAt (g.A.Arity.arity c.args.arity.now) c.args.code.now) c.build.ensures.read tt (λ d e.
    (step_reads _ _ _ _ _ _ c.build.ensures.bytes c.requires.inside.0 c.requires.inside.1 c.requires.ends c.requires.deep).fault d e)
