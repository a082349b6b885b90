use Rattle.asl_text.proofs.Common.{prints_word}
use Rattle.asl_text.proofs.told.print_piece.Goals as goal

pub returns-in-Link : goal.returns-in-Link
returns-in-Link g c = rw c.in-Link.is (prints_word g.W.Write.contents _ _ "Connection (" c.print_fixed.ensures)
