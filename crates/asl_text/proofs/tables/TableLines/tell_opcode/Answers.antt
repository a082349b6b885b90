use Rattle.std.proofs.Common.{ℕ, List, Bool, Some, length, ap₂}
use Rattle.text_writer.proofs.PrintLaws.{prints_same}
use Rattle.aml_code.specs.Opcodes.{row_view}
use Rattle.asl_text.specs.Pieces.{row_opening}
use Rattle.asl_text.specs.Tables.{Made}
use Rattle.asl_text.specs.TextLaws.{prints_whole}
use Rattle.asl_text.proofs.tables.TableLines.tell_opcode.Goals as goal

pub returns-clause-told : goal.returns-clause-told
returns-clause-told c = (
  prints_same _ _ _ _ c.print_piece.ensures,
  λ ok.
      let old = c.args.self.now in
      let row = c.args.row.now in
      let whole = prints_whole old.out.now c.print_piece.new.out (row_opening (Some (row_view row)) (length row.parts.now)) c.print_piece.ensures ok in
      let made : List ℕ → Bool → Made =
      λ text in_method. record { text = text; places = old.places.now.items; level = old.level; in_method = in_method } in
      (whole.0, ap₂ made whole.1 c.is_method-self.ensures),
)
