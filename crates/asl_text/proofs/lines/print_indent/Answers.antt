use Rattle.std.proofs.Common.{subst}
use Rattle.asl_text.proofs.Common.{Prints}
use Rattle.asl_text.proofs.TextLaws.{indent_front}
use Rattle.asl_text.proofs.lines.print_indent.Goals as goal

pub returns-then-level-le8 : goal.returns-then-level-le8
returns-then-level-le8 g c =
    subst (Prints g.W.Write.contents c.args.out.now c.put_front.new.self) (indent_front c.args.level c.if-level-le8.true) c.put_front.ensures
