use Rattle.acpidis.proofs.Common.{IfOk-weaker}
use Rattle.acpidis.proofs.BodyLaws.{whole_kept}
use Rattle.acpidis.proofs.bodies.read_bodies.Goals as goal

pub returns-clause-bodies : goal.returns-clause-bodies
returns-clause-bodies g c = IfOk-weaker c.keep_bodies.result _ _ (λ r k. whole_kept c.args.unknown_zero c.args.set.now r.items.items k)
    c.keep_bodies.ensures.kept
