use Rattle.std.proofs.Common.{refl}
use Rattle.text_writer.proofs.PrintLaws.{prints_added}
use Rattle.text_writer.proofs.output.Out.put_front.Goals as goal

pub returns-then-room-ge16 : goal.returns-then-room-ge16
returns-then-room-ge16 g c = prints_added g.W.Write.contents _ _ _ refl refl refl refl c.place_front-self.ensures.placed
