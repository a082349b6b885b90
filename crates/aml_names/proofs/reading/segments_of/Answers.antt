use Rattle.std.proofs.Common.{◌≡◌, ◌+◌, ◌-◌, arith}
use Rattle.aml_names.proofs.NameLoops.{segments_go_on, segments_end}
use Rattle.aml_names.proofs.reading.segments_of.Goals as goal

pub segments-preserved : goal.segments-preserved
segments-preserved c =
    let less : c.args.count - (c.segments.counter + 1) ≡ c.args.count - c.segments.counter - 1 = omega arith in
    rw (less, c.in_ok-push.ensures.ok) (segments_go_on _ _ _ _ _ _ _ (omega arith) c.in_ok-seg.ensures c.segments.invariant)

pub returns : goal.returns
returns c = segments_end _ _ _ _ _ (omega arith) c.segments.invariant
