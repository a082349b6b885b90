use Rattle.std.proofs.Common.{◌≡◌, ◌<◌, ◌∷◌, ◌++◌, [], true, get_or, length, take, inl, inr, sym, ap, ◌∙◌, arith}
use Rattle.std.specs.Ordering.{eq_by_cmp, is_eq}
use Rattle.std.proofs.lemmas.List.{take_more, take_rest, get_or-take}
use Rattle.std.proofs.lemmas.Bool.{cases_lt, false≢true}
use Rattle.std.specs.Cmp.{tied_itself}
use Rattle.std.proofs.lemmas.Map.Views.{tells_apart}
use Rattle.aml_names.specs.declared.segments.Seg.{Seg}
use Rattle.aml_names.specs.Paths.{seg_cmp, exact_segs, segs_total}
use Rattle.aml_names.proofs.Fronts.{take_on}
use Rattle.aml_names.proofs.paths.common.Goals as goal

pub loop-known-preserved : goal.loop-known-preserved
loop-known-preserved c =
    let k = c.loop-known.known in
    let block = ap (take 256) (sym (take_rest c.args.some.now k)) ∙ c.matches.ensures.all c.if-matches-eq-BLOCK.true ∙ ap (take 256) (take_rest c.args.others.now k) in
    record {
      within = omega (arith, c.loop-known-test.true, c.loop-known.invariant.within);
      same = take_on k 256 c.args.some.now ∙ (λ t. c.loop-known.invariant.same t ++ block t)
          ∙ sym (take_on k 256 c.args.others.now);
    }

pub loop-known-2-preserved : goal.loop-known-2-preserved
loop-known-2-preserved c =
    let k = c.loop-known-2.known in
    let others = c.args.others.now in
    let some = c.args.some.now in
    let e : Seg = record { 0 = [] } in
    let inside : k < length others = omega (arith, c.min-most.ensures, c.loop-known-2-test.true) in
    let along : k < length some = omega (arith, c.min-most.ensures, c.loop-known-2-test.true) in
    let equal : eq_by_cmp seg_cmp (get_or some k e) (get_or others k e) ≡ true = ap is_eq (sym c.in_order.ensures) ∙ sym c.is_eq.ensures ∙ c.if-is_eq.true in
    record {
      within = omega (arith, c.loop-known-2-test.true);
      same = take_more some k e along ∙ (λ t. c.loop-known-2.invariant.same t ++ tells_apart exact_segs (get_or some k e) (get_or others k e) equal t ∷ [])
          ∙ sym (take_more others k e inside);
    }

pub returns-else-is_eq-clause-most : goal.returns-else-is_eq-clause-most
returns-else-is_eq-clause-most c n a b same =
    let k = c.loop-known-2.known in
    let e : Seg = record { 0 = [] } in
    let here = get_or c.args.some.now k e in
    elim (cases_lt k n) [
      | inl less ↦
          let tied : eq_by_cmp seg_cmp here (get_or c.args.others.now k e) ≡ true =
          ap (eq_by_cmp seg_cmp here) (sym (get_or-take n c.args.others.now k e less) ∙ ap (λ qs. get_or qs k e) (sym same) ∙ get_or-take n c.args.some.now k e less)
          ∙ ap is_eq (tied_itself segs_total here) in
          absurd (false≢true (sym (ap is_eq (sym c.in_order.ensures) ∙ sym c.is_eq.ensures ∙ c.if-is_eq.false) ∙ tied))
      | inr few ↦ few
    ]
