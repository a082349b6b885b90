use Rattle.std.proofs.Common.{◌≡◌, ◌+◌, ◌∷◌, ◌++◌, [], true, get_or, take, sym, ap, ◌∙◌, arith}
use Rattle.std.specs.Ordering.{eq_by_cmp, is_eq}
use Rattle.std.proofs.lemmas.List.{take_more}
use Rattle.std.proofs.lemmas.Map.Views.{tells_apart}
use Rattle.aml_names.specs.declared.segments.Seg.{Seg}
use Rattle.aml_names.specs.Paths.{seg_cmp, exact_segs}
use Rattle.aml_names.proofs.paths.matches.Goals as goal
use Rattle.aml_names.proofs.paths.matches.Goals.{then-is_eq, else-is_eq}

pub loop-index-preserved : goal.loop-index-preserved
loop-index-preserved c =
    let i = c.loop-index.index in
    let inv = c.loop-index.invariant in
    let some = c.args.some.now in
    let others = c.args.others.now in
    let e : Seg = record { 0 = [] } in
    elim c.if-is_eq.branch [
      | then-is_eq w ↦ record {
        few = omega (arith, inv.few, w.same-is);
        all = λ here. by (inv.all (omega (arith, here, w.same-is))) (ap is_eq (sym c.in_order.ensures) ∙ sym c.is_eq.ensures ∙ w.if-is_eq.true);
      }
      | else-is_eq w ↦ record {
        few = omega (arith, inv.few, w.same-is);
        all = λ here. absurd (omega (arith, here, w.same-is, inv.few));
      }
    ]
  where
    by : take c.loop-index.index c.args.some.now ≡ take c.loop-index.index c.args.others.now
        → eq_by_cmp seg_cmp (get_or c.args.some.now c.loop-index.index (record { 0 = [] })) (get_or c.args.others.now c.loop-index.index (record { 0 = [] })) ≡ true
        → take (c.loop-index.index + 1) c.args.some.now ≡ take (c.loop-index.index + 1) c.args.others.now
    by front equal =
        let i = c.loop-index.index in
        let e : Seg = record { 0 = [] } in
        take_more c.args.some.now i e (omega (arith, c.requires.some, c.loop-index-test.true))
        ∙ (λ t. front t ++ tells_apart exact_segs (get_or c.args.some.now i e) (get_or c.args.others.now i e) equal t ∷ [])
        ∙ sym (take_more c.args.others.now i e (omega (arith, c.requires.others, c.loop-index-test.true)))
