use Rattle.asl_text.proofs.Common.{map, take, Prints}
use Rattle.asl_text.proofs.TextLaws.{continued}
use Rattle.asl_text.proofs.inline.print_separated.Given as goal

abbrev pub invariant-loop-item : goal.invariant-loop-item
invariant-loop-item g l = Prints g.W.Write.contents l.initial.out l.out (continued l.separator (map g.T.Inline.text (take l.item-index l.rest)))
