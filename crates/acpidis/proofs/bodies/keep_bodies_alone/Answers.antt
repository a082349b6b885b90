use Rattle.acpidis.proofs.Common.{◌≡◌, length, arith, body_in_set, ReadsIn}
use Rattle.acpidis.proofs.BodyLaws.{chosen}
use Rattle.acpidis.proofs.bodies.keep_bodies_alone.Goals as goal

pub returns-clause-kept : goal.returns-clause-kept
returns-clause-kept g c =
    let set = c.args.set.now in
    let kept = c.loop-number.kept.items in
    let len : length kept ≡ length set.methods.items = omega arith in
    chosen (ReadsIn c.args.unknown_zero set) (λ n. g.K.Keep.keeps c.args.keep.now n (body_in_set set n)) set.methods.items kept len
    c.loop-number.invariant.each
