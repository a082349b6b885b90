use Rattle.acpidis.proofs.Common.{sym, ◌∙◌, check_lines, writes_listing, prints_same}
use Rattle.acpidis.proofs.check_lines.write_tables.Goals as goal

pub returns : goal.returns
returns g c =
    let text = check_lines (g.T.Blocks.blocks c.args.tables.now) c.args.checks.now in
    let same = prints_same _ _ _ _ c.finish.ensures.prints ∙ prints_same _ _ _ _ c.print_checks.ensures in
    let done = writes_listing _ c.new-sink.result c.print_checks.new.out c.finish.new.self text c.finish.result
    c.new-sink.ensures.well c.new-sink.ensures.none c.new-sink.ensures.empty c.print_checks.ensures c.finish.ensures.prints c.finish.ensures.ok
    c.finish.ensures.err in
    let ends = c.out-1.given.1 (sym c.new-sink.ensures.same ∙ sym same) in
    rw ends (rw (← c.new-sink.ensures.now) done)
