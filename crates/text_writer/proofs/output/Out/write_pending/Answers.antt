use Rattle.std.proofs.Common.{[], append-nil, refl}
use Rattle.text_writer.specs.Prints.{waiting}
use Rattle.text_writer.proofs.PrintLaws.{prints_sent}
use Rattle.text_writer.proofs.output.Out.write_pending.Goals as goal

pub returns-clause-prints : goal.returns-clause-prints
returns-clause-prints g c =
    prints_sent g.W.Write.contents _ _ [] _ c.send-taken.result c.requires (append-nil (waiting c.args.self.now))
    refl c.send-taken.ensures.sent c.send-taken.ensures.bound c.saturating_add-self.ensures refl refl
