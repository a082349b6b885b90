use Rattle.std.proofs.Common.{◌++◌, [], refl, ap}
use Rattle.text_writer.proofs.PrintLaws.{prints_then, prints_failed, prints_fault, prints_added, prints_sent}
use Rattle.text_writer.proofs.output.Out.spill.Goals as goal

pub returns-then-self : goal.returns-then-self
returns-then-self g c = prints_failed g.W.Write.contents _ _ c.if-self.true

pub returns-then-self-2 : goal.returns-then-self-2
returns-then-self-2 g c = prints_fault g.W.Write.contents _ _ [] c.args.bytes.now c.if-self-2.true c.write_pending.ensures.prints

pub returns-then-bytes-room : goal.returns-then-bytes-room
returns-then-bytes-room g c =
    prints_then g.W.Write.contents _ c.write_pending.new.self _ [] c.args.bytes.now c.write_pending.ensures.prints
    (prints_added g.W.Write.contents _ _ _ refl refl refl refl c.place-self.ensures.placed)

pub returns : goal.returns
returns g c =
    let none = c.write_pending.ensures.empty c.if-self-2.false in
    prints_then g.W.Write.contents _ c.write_pending.new.self _ [] c.args.bytes.now c.write_pending.ensures.prints
    (prints_sent g.W.Write.contents _ _ c.args.bytes.now c.args.bytes.now c.send-taken.result c.if-self-2.false (ap (λ l. l ++ c.args.bytes.now) none)
    refl c.send-taken.ensures.sent c.send-taken.ensures.bound c.saturating_add-self.ensures refl none)
