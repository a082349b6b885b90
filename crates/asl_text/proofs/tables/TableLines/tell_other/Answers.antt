use Rattle.std.proofs.Common.{ℕ, List, ap, sym, ◌∙◌}
use Rattle.text_writer.proofs.PrintLaws.{prints_same}
use Rattle.aml_code.specs.Pieces.{piece_view}
use Rattle.asl_text.specs.Tables.{Made, made_so_far, made_text}
use Rattle.asl_text.specs.TextLaws.{prints_whole}
use Rattle.asl_text.proofs.tables.TableLines.tell_other.Goals as goal

pub returns-clause-told : goal.returns-clause-told
returns-clause-told c = (
  prints_same _ _ _ _ c.print_table_piece.ensures,
  λ ok.
      let old = c.args.self.now in
      let p = piece_view c.args.piece.now in
      let whole = prints_whole old.out.now c.print_table_piece.new.out (made_text old.in_method p) c.print_table_piece.ensures ok in
      let made : List ℕ → Made =
      λ text. record { text = text; places = old.places.now.items; level = old.level; in_method = old.in_method } in
      (whole.0, ap made whole.1 ∙ sym (c.requires.other (made_so_far old))),
)
