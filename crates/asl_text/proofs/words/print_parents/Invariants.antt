use Rattle.asl_text.proofs.Common.{replicate, Prints}
use Rattle.asl_text.proofs.words.print_parents.Given as goal

abbrev pub invariant-loop-i : goal.invariant-loop-i
invariant-loop-i g l = Prints g.W.Write.contents l.initial.out l.out (replicate l._i 94)
