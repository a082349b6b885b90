use Rattle.std.proofs.Common.{ℕ, List, ap}
use Rattle.text_writer.proofs.PrintLaws.{prints_same}
use Rattle.asl_text.specs.Texts.{indent}
use Rattle.asl_text.specs.Tables.{Made}
use Rattle.asl_text.specs.TextLaws.{prints_whole}
use Rattle.asl_text.proofs.tables.TableLines.tell_line.Goals as goal

pub returns-clause-told : goal.returns-clause-told
returns-clause-told c = (
  prints_same _ _ _ _ c.print_indent.ensures,
  λ ok.
      let old = c.args.self.now in
      let whole = prints_whole old.out.now c.print_indent.new.out (indent c.args.level) c.print_indent.ensures ok in
      let made : List ℕ → Made =
      λ text. record { text = text; places = old.places.now.items; level = c.args.level; in_method = old.in_method } in
      (whole.0, ap made whole.1),
)
