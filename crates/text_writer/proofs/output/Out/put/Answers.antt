use Rattle.std.proofs.Common.{refl}
use Rattle.text_writer.proofs.PrintLaws.{prints_added}
use Rattle.text_writer.proofs.output.Out.put.Goals as goal

pub returns-then-bytes-room : goal.returns-then-bytes-room
returns-then-bytes-room g c = prints_added g.W.Write.contents _ _ _ refl refl refl refl c.place-self.ensures.placed
