unfoldable use Rattle.asl_text.specs.Texts.{segment_text}
use Rattle.asl_text.proofs.words.SegInline.print.Goals as goal

pub returns : goal.returns
unfolding segment_text
returns g c = c.put.ensures
