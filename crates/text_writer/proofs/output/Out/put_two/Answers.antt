use Rattle.std.proofs.Common.{refl}
use Rattle.text_writer.proofs.PrintLaws.{prints_added}
use Rattle.text_writer.proofs.output.Out.put_two.Goals as goal

pub returns-then-room-ge2 : goal.returns-then-room-ge2
returns-then-room-ge2 g c = prints_added g.W.Write.contents _ _ _ refl refl refl refl c.place_two-self.ensures.placed
