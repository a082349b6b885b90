use Rattle.asl_text.proofs.Common.{◌≡◌, ◌∙◌, ◌++◌, ℕ, List, Seg, length, map, take, word, ap, sym, subst, arith, Prints}
use Rattle.std.specs.List.{flat_map}
use Rattle.std.proofs.lemmas.List.Folds.{flat_map-map}
use Rattle.std.proofs.lemmas.List.{take_all}
use Rattle.asl_text.specs.Texts.{segment_text}
use Rattle.asl_text.proofs.words.print_block.Goals as goal

pub returns : goal.returns
returns g c =
    let segs = c.args.segs.now in
    let put : Seg → List ℕ = λ s. word "." ++ segment_text s in
    let all : c.loop-place.place ≡ length segs = omega (arith, c.loop-place-test.false, c.loop-place.auto.place-end) in
    let filled : take (length segs) c.loop-place.block ≡ map put segs =
    ap (λ n. take n c.loop-place.block) (sym all) ∙ c.loop-place.invariant.1 ∙ ap (map put) (ap (λ n. take n segs) all ∙ take_all (length segs) segs (omega arith)) in
    let text : c.as_flattened.result.now ≡ flat_map (λ t. word "." ++ t) (map segment_text segs) =
    c.as_flattened.ensures.value ∙ ap (flat_map (λ x. x)) filled
    ∙ flat_map-map (λ x. x) put segs ∙ sym (flat_map-map (λ t. word "." ++ t) segment_text segs) in
    subst (Prints g.W.Write.contents c.args.out.now c.put.new.self) text c.put.ensures
