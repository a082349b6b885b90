use Rattle.asl_text.proofs.Common.{word, subst, arith, Prints}
use Rattle.asl_text.specs.Texts.{segment_text}
use Rattle.asl_text.proofs.TextLaws.{continued-all}
use Rattle.asl_text.proofs.words.print_few.Goals as goal

pub returns : goal.returns
returns g c = subst (Prints g.W.Write.contents c.args.out.now c.loop-seg.out)
    (continued-all (word ".") segment_text c.args.segs.now c.loop-seg.seg-index (omega (arith, c.loop-seg-test.false))) c.loop-seg.invariant
