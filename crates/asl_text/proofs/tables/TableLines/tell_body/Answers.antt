use Rattle.std.proofs.Common.{◌≡◌, ℕ, List, [], ◌∷◌, ◌++◌, length, ap, ap₂, ◌∙◌, arith, false}
use Rattle.std.proofs.lemmas.List.{length-append}
use Rattle.asl_text.specs.declared.bounded.Bounded.{Bounded}
use Rattle.text_writer.proofs.PrintLaws.{prints_same}
use Rattle.text_writer.specs.Prints.{waiting}
use Rattle.aml_code.specs.declared.rows.TailKind.TheVariants as kinds
use Rattle.asl_text.specs.Pieces.{list_closing, list_opening}
use Rattle.asl_text.specs.Tables.{Made, printed}
use Rattle.asl_text.specs.declared.tables.Place.{Place}
use Rattle.asl_text.specs.TextLaws.{prints_whole}
use Rattle.asl_text.proofs.tables.TableLines.tell_body.Goals as goal

pub returns-clause-told : goal.returns-clause-told
returns-clause-told c = (
  prints_same _ _ _ _ c.print_piece-2.ensures ∙ prints_same _ _ _ _ c.print_piece.ensures,
  λ ok.
      let old = c.args.self.now in
      let mid = c.print_piece.new.out in
      let opening : List ℕ = list_opening kinds.Terms in
      let closing : List ℕ = list_closing kinds.Terms old.level in
      let second = prints_whole mid c.print_piece-2.new.out closing c.print_piece-2.ensures ok in
      let first = prints_whole old.out.now mid opening c.print_piece.ensures second.0 in
      let at : c.in-Some.at ≡ length (printed old.out.now ++ opening) =
      omega (
        arith,
        c.in-Some.ensures.1,
        c.len.ensures,
        ap (λ (b : Bounded). length b.text.items) c.writer.ensures,
        c.waits.ensures,
        length-append mid.inner.now.text.items (waiting mid),
        ap length first.1,
      ) in
      let text = second.1 ∙ ap (λ (l : List ℕ). l ++ closing) first.1 in
      let places = c.in_ok-push.ensures.items
      ∙ ap₂ (λ (n level : ℕ). old.places.now.items ++ record { at = n; level = level; start = c.args.start; len = c.args.len } ∷ [])
      at c.saturating_add.ensures in
      let made : List ℕ → List Place → Made =
      λ text places. record { text = text; places = places; level = old.level; in_method = false } in
      (first.0, ap₂ made text places),
)
