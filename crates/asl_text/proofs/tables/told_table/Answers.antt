use Rattle.std.proofs.Common.{◌≡◌, ◌∙◌, sym, ◌++◌, ap, ap₂, false, List, [], ℕ, rules}
use Rattle.text_writer.proofs.PrintLaws.{prints_same}
use Rattle.text_writer.specs.Prints.{waiting}
use Rattle.asl_text.specs.TextLaws.{made_whole}
use Rattle.asl_text.proofs.tables.told_table.Goals as goal

pub returns-clause-told : goal.returns-clause-told
returns-clause-told g c =
    let told = c.in_ok-made.ensures.told in
    let ended : (c.finish.new.self.failed ≡ false) × (waiting c.finish.new.self ≡ []) = search rules in
    let same = prints_same _ _ _ _ c.finish.ensures.prints ∙ told.1.1.0 ∙ c.new-out.ensures.same in
    let none = ap₂ (λ (xs ys : List ℕ). xs ++ ys) (ap (λ b. b.text.items) c.new-out.ensures.now ∙ c.new-text.ensures)
    c.new-out.ensures.empty in
    let whole = made_whole c.new-out.result c.print_pieces.new.out c.finish.new.self c.new-places.result.items c.print_pieces.new.places.items told.0 none
    c.new-places.ensures.items told.1.1 c.finish.ensures.prints ended in
    (told.0, (told.1.0, (c.into_text-text.ensures ∙ ap (λ b. b.text.items) (c.text-2-1.given.1 (sym same)) ∙ whole.0, c.shrink_to_fit.ensures.items ∙ whole.1)))
