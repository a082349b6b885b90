use Rattle.std.proofs.Common.{refl}
use Rattle.aml_text.proofs.Common.{prints_word}
use Rattle.aml_text.proofs.rows.print_kind.Goals as goal

pub returns-in-BufferField : goal.returns-in-BufferField
returns-in-BufferField g c = record {
  text = rw c.in-BufferField.is (prints_word g.W.Write.contents _ _ "BufferField" c.put-in-BufferField.ensures);
  long = refl;
}
