use Rattle.std.proofs.Common.{ap, sym, ◌∙◌}
use Rattle.std.specs.Prelude.{Some}
use Rattle.acpidis_c.proofs.Calling.{calls}
use Rattle.acpidis_c.proofs.step.call.Goals as goal

pub returns : goal.returns
returns g c =
    calls (g.S.Step.does c.args.step) (g.S.Step.stops c.args.step) _ _ _ _ _
    (c.in-Some.ensures.some ∙ ap (λ s. Some s) (sym c.deref_mut.ensures.value)) c.put.ensures c.step-ended.ensures.done
    c.step-ended.ensures.stops c.step-ended.ensures.refused
