use Rattle.asl_text.proofs.Common.{prints_then, prints_word}
use Rattle.asl_text.proofs.lines.print_extended.Goals as goal

pub returns : goal.returns
returns g c =
    let f = g.W.Write.contents in
    prints_then f _ _ _ _ _ (prints_then f _ _ _ _ _ (prints_word f _ _ "ExtendedAccess (" c.put.ensures) c.print_byte_pair.ensures)
    c.print_byte_end.ensures
