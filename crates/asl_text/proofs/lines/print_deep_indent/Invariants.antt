use Rattle.std.proofs.Common.{◌*◌}
use Rattle.asl_text.proofs.Common.{Prints, indent}
use Rattle.asl_text.proofs.lines.print_deep_indent.Given as goal

abbrev pub invariant-loop-i : goal.invariant-loop-i
invariant-loop-i g l = Prints g.W.Write.contents l.initial.out l.out (indent (4 * l._i))

abbrev pub invariant-loop-j : goal.invariant-loop-j
invariant-loop-j g l = Prints g.W.Write.contents l.initial.out l.out (indent l._j)
