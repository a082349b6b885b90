use Rattle.acpidis.proofs.Common.{arith}
use Rattle.acpidis.proofs.CheckLaws.{counted_more, counted_all}
use Rattle.acpidis.proofs.checking.count_methods.Goals as goal

pub loop-number-preserved : goal.loop-number-preserved
loop-number-preserved c =
    counted_more c.args.methods.now c.args.tried.now c.requires.each c.loop-number.number c.index-methods-number.result _ c.of.result c.args.all.now.items
    c.loop-number.all.items c.count_method.new.all.items c.loop-number-test.true c.index-methods-number.is c.of.ensures c.count_method.ensures
    c.loop-number.invariant

pub returns : goal.returns
returns c =
    counted_all c.args.methods.now c.args.tried.now c.requires.each c.loop-number.number c.args.all.now.items c.loop-number.all.items (omega arith)
    c.loop-number.invariant
