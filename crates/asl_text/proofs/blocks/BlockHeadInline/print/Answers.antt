use Rattle.asl_text.proofs.Common.{prints_then, prints_word}
use Rattle.asl_text.proofs.blocks.BlockHeadInline.print.Goals as goal

pub returns : goal.returns
returns g c =
    let f = g.W.Write.contents in
    prints_then f _ _ _ _ _ (prints_then f _ _ _ _ _ (prints_word f _ _ "DefinitionBlock (" c.put.ensures) c.print_quoted.ensures)
    (prints_word f _ _ ")" c.put-2.ensures)
