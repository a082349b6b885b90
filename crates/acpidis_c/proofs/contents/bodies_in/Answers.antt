use Rattle.std.proofs.Common.{subst}
use Rattle.std.proofs.lemmas.Result.{IfOk-weaker}
use Rattle.acpidis_c.specs.Contents.{AreValues, kept_text, kept_value}
use Rattle.acpidis_c.proofs.Listing.{are_read}
use Rattle.acpidis_c.proofs.contents.bodies_in.Goals as goal

pub returns-in-Ok-clause-bodies : goal.returns-in-Ok-clause-bodies
returns-in-Ok-clause-bodies c =
    IfOk-weaker c.bodies_of-in-Ok.result _ _ (λ v are.
    are_read c.args.asked c.args.unknown_zero c.args.set.now c.in-Ok.bodies.items v c.in-Ok.ensures.kept
    (subst (λ ds. AreValues kept_text kept_value ds v) c.as_slice.ensures.value are) c.if-not-asked.false)
    c.bodies_of-in-Ok.ensures.bodies
