use Rattle.std.proofs.Common.{◌≡◌, map, length, Some, None, sym, ap, ◌∙◌, subst}
use Rattle.std.specs.Prelude.{slice_get}
use lib.ListN.{length-replicate}
use Rattle.std.proofs.lemmas.List.{length-map}
use Rattle.std.proofs.lemmas.Option.{slice_get-map}
use Rattle.std.specs.Option.{option_map}
use Rattle.aml_pool.specs.Counting.{times, once_below, free, AllGive}
use Rattle.aml_pool.proofs.Places.{free-new, gives-none}
use Rattle.aml_pool.proofs.results.reaped.Goals as goal

pub filed-requires-clause-places : goal.filed-requires-clause-places
filed-requires-clause-places g c =
    let share = c.requires.share.3 in let count = c.args.board.count in
    let whole : c.close-drawn.result.numbers ≡ count = c.close-drawn.ensures.ended share.ended in
    λ x. ap (times x) (share.parts.numbers ∙ sym share.numbers) ∙ (c.close-drawn.ensures.each x
    ∙ (ap (once_below x) whole ∙ (sym (free-new _ count x) ∙ ap (free x) (sym c.requires.empty))))

pub filed-requires-clause-gives : goal.filed-requires-clause-gives
filed-requires-clause-gives g c =
    let gives = g.W.Work.gives c.args.work.now in (
      c.requires.share.3.parts.results,
      subst (AllGive gives) (sym c.requires.empty) (gives-none gives c.args.board.count),
    )

pub returns : goal.returns
returns g c =
    let share = c.requires.share.3 in let count = c.args.board.count in
    let whole : c.close-drawn.result.numbers ≡ count = c.close-drawn.ensures.ended share.ended in
    let items = c.finish-items.result.items in
    let places : map (λ d. Some d) items ≡ c.filed.result.slots.items = c.finish-items.ensures in record {
      items_len = sym (length-map items (λ d. Some d)) ∙ (ap length places
          ∙ (c.filed.ensures.len ∙ (ap length c.requires.empty ∙ length-replicate count None)));
      results = λ n d e. c.filed.ensures.gives n d (ap (λ l. slice_get l n) (sym places)
          ∙ (slice_get-map (λ x. Some x) items n ∙ ap (option_map (λ x. Some x)) e));
      lists = share.parts.lists;
      ascending = share.parts.ascending;
      once = λ x. ap (times x) (sym share.numbers) ∙ (c.close-drawn.ensures.each x ∙ ap (once_below x) whole);
    }
