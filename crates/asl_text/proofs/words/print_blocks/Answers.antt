use Rattle.asl_text.proofs.Common.{word, subst, sym, arith, Prints, prints_then}
use Rattle.asl_text.specs.Texts.{segment_text}
use Rattle.asl_text.proofs.TextLaws.{continued-all, continued-on}
use Rattle.asl_text.proofs.words.print_blocks.Goals as goal

pub loop-done-preserved : goal.loop-done-preserved
loop-done-preserved g c = subst (Prints g.W.Write.contents c.args.out.now c.print_block.new.out)
    (sym (continued-on (word ".") segment_text c.args.segs.now c.loop-done.done c.min-count.result))
    (prints_then g.W.Write.contents _ _ _ _ _ c.loop-done.invariant c.print_block.ensures)

pub returns : goal.returns
returns g c = subst (Prints g.W.Write.contents c.args.out.now c.loop-done.out)
    (continued-all (word ".") segment_text c.args.segs.now c.loop-done.done (omega (arith, c.loop-done-test.false))) c.loop-done.invariant
