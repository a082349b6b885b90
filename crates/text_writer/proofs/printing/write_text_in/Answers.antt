use Rattle.std.proofs.Common.{sym, ◌∙◌}
use Rattle.text_writer.proofs.PrintLaws.{writes_listing, prints_same}
use Rattle.text_writer.proofs.printing.write_text_in.Goals as goal

pub returns : goal.returns
returns g c =
    let same = prints_same _ _ _ _ c.finish.ensures.prints ∙ prints_same _ _ _ _ c.print.ensures in
    let done = writes_listing _ c.new-sink.result c.print.new.out c.finish.new.self (g.T.Print.text c.args.item.now) c.finish.result
    c.new-sink.ensures.well c.new-sink.ensures.none c.new-sink.ensures.empty c.print.ensures c.finish.ensures.prints c.finish.ensures.ok
    c.finish.ensures.err in
    let ends = c.out-1.given.1 (sym c.new-sink.ensures.same ∙ sym same) in
    rw ends (rw (← c.new-sink.ensures.now) done)
