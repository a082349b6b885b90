use Rattle.std.specs.Prelude.{take}
use Rattle.std.proofs.lemmas.List.{flat_map_more, take_more}
use Rattle.aml_text.proofs.Common.{[], ◌∷◌, ◌++◌, ◌∙◌, ap, flat_map, subst, sym, Prints, prints_then}
use Rattle.aml_text.proofs.rows.print_texts.Goals as goal

pub loop-text-preserved : goal.loop-text-preserved
loop-text-preserved g c =
    let f = g.W.Write.contents in
    let texts = c.args.texts.now in
    let done = take c.loop-text.text-index texts in
    let text = c.text-item.result in
    subst (Prints f c.args.out.now c.put.new.self)
    (flat_map_more (λ t. t.items) [] done text
    ∙ ap (flat_map (λ t. t.items))
    (sym (take_more texts c.loop-text.text-index text c.loop-text-test.true
    ∙ ap (λ t. done ++ t ∷ []) (sym c.text-item.is))))
    (prints_then f _ _ _ _ _ c.loop-text.invariant (rw c.as_slice.ensures.value at c.put.ensures))
