use Rattle.asl_text.proofs.Common.{◌-◌, length, map, take, word, Prints}
use Rattle.asl_text.specs.Texts.{segment_text}
use Rattle.asl_text.proofs.TextLaws.{continued}
use Rattle.asl_text.proofs.words.print_blocks.Given as goal

abbrev pub invariant-loop-done : goal.invariant-loop-done
invariant-loop-done g l = Prints g.W.Write.contents l.initial.out l.out (continued (word ".") (map segment_text (take l.done l.segs)))

abbrev pub decreases-loop-done : goal.decreases-loop-done
decreases-loop-done g l = length l.segs - l.done
