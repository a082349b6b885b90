use Rattle.asl_text.proofs.Common.{map, take, word, Prints}
use Rattle.asl_text.specs.Texts.{segment_text}
use Rattle.asl_text.proofs.TextLaws.{continued}
use Rattle.asl_text.proofs.words.print_few.Given as goal

abbrev pub invariant-loop-seg : goal.invariant-loop-seg
invariant-loop-seg g l = Prints g.W.Write.contents l.initial.out l.out (continued (word ".") (map segment_text (take l.seg-index l.segs)))
