use Rattle.asl_text.proofs.Common.{prints_then, prints_word, method_text}
use Rattle.asl_text.proofs.blocks.print_method.Goals as goal

pub returns : goal.returns
unfolding method_text
returns g c =
    let f = g.W.Write.contents in
    prints_then f _ _ _ _ _ (prints_then f _ _ _ _ _ (prints_then f _ _ _ _ _ (prints_word f _ _ "Method (" c.put.ensures) c.print_name.ensures)
    c.print_flags.ensures) (prints_word f _ _ ")" c.put-2.ensures)
