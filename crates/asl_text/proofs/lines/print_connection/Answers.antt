use Rattle.asl_text.proofs.Common.{prints_then, prints_word}
use Rattle.asl_text.proofs.lines.print_connection.Goals as goal

pub returns : goal.returns
returns g c =
    let f = g.W.Write.contents in
    prints_then f _ _ _ _ _ (prints_then f _ _ _ _ _ (prints_word f _ _ "Connection (" c.put.ensures) c.print_link.ensures)
    (prints_word f _ _ ")" c.put-2.ensures)
