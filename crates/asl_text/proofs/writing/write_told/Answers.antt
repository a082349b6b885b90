use Rattle.std.proofs.Common.{sym, flat_map, ◌∙◌}
use Rattle.asl_text.specs.Pieces.{piece_text}
use Rattle.text_writer.proofs.PrintLaws.{writes_listing, prints_same}
use Rattle.asl_text.proofs.writing.write_told.Goals as goal

pub returns-clause-told : goal.returns-clause-told
returns-clause-told g c =
    let told = c.in_ok-print_told.ensures.told in
    let begun = c.new-lines.ensures in
    let ended = c.finish.ensures in
    let same = prints_same _ _ _ _ ended.prints ∙ prints_same _ _ _ _ told.1.1 in
    let done = writes_listing _ c.new-lines.result c.print_told.new.out c.finish.new.self (flat_map piece_text told.0)
    c.finish.result begun.well begun.none begun.empty told.1.1 ended.prints ended.ok ended.err in
    let ends = c.out-2-1.given.1 (sym begun.same ∙ sym same) in
    (c.in_ok-print_told.field-0, told.0, (told.1.0, rw ends (rw (← begun.now) done)))
