use Rattle.std.proofs.Common.{arith}
use Rattle.std.proofs.lemmas.Bool.{ne_eqb}
use Rattle.aml_names.proofs.NameLoops.{parents_go_on, parents_stop, parents_end}
use Rattle.aml_names.proofs.reading.parents_of.Goals as goal

pub returns-then-byte-ne-PARENT_PREFIX : goal.returns-then-byte-ne-PARENT_PREFIX
returns-then-byte-ne-PARENT_PREFIX c =
    omega (arith, parents_stop c.args.bytes.now c.loop-byte.byte-index c.loop-byte-test.true (ne_eqb _ _ c.if-byte-ne-PARENT_PREFIX.true))

pub loop-byte-preserved : goal.loop-byte-preserved
loop-byte-preserved c =
    let e = parents_go_on c.args.bytes.now c.loop-byte.byte-index c.loop-byte-test.true c.if-byte-ne-PARENT_PREFIX.false in
    record { counted = omega arith; others = omega arith }

pub returns : goal.returns
returns c = omega (arith, parents_end c.args.bytes.now c.loop-byte.byte-index (omega arith))
