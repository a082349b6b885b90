use Rattle.std.proofs.Common.{◌≡◌, ◌++◌, ◌∷◌, [], ◌+◌, if◌then◌else◌, Bool, List, Ok, Err, Some, drop}
use Rattle.std.proofs.Common.{refl, subst, sym, ap, inl, inr, ◌∙◌, false, true}
use Rattle.std.specs.Prelude.{nat_eq}
use Rattle.std.specs.Option.{option_eq}
use Rattle.std.proofs.lemmas.List.{drop_more}
use Rattle.std.proofs.lemmas.Result.{err_from_is_err_and}
use Rattle.aml_namespace.specs.Namespace.{Entry}
use Rattle.aml_load.specs.declared.faults.LoadFault.{LoadFault}
use Rattle.aml_load.specs.Groups.{group_uses, uses_of}
use Rattle.aml_load.specs.Declaring.{Use, use_count, call_fault, uses_at}
use Rattle.aml_load.specs.Tables.{Fails}
use Rattle.aml_load.proofs.loading.check_uses.Goals as goal

module _ (any z : Bool) (es : List Entry) (vs : List Use) where
  -- behind names that take what was read
  passed : (us : List Use) (done : Unit {0}) → uses_at any z es us ≡ Ok done
      → uses_at any z es (us ++ vs) ≡ uses_at any z es vs
  unfolding uses_at
  passed [] done is = refl
  passed (u ∷ us) done is = by (option_eq nat_eq (use_count z es u) (Some u.args)) is (passed us done)
    where
      by : (b : Bool) → (if b then uses_at any z es us else Err (call_fault any u)) ≡ Ok done
          → (uses_at any z es us ≡ Ok done → uses_at any z es (us ++ vs) ≡ uses_at any z es vs)
          → (if b then uses_at any z es (us ++ vs) else Err (call_fault any u)) ≡ uses_at any z es vs
      by true is others = others is
      by false is others = absurd cc

  -- and before others than the first fault
  stopped : (us : List Use) (e : LoadFault) → uses_at any z es us ≡ Err e → uses_at any z es (us ++ vs) ≡ Err e
  unfolding uses_at
  stopped [] e is = absurd cc
  stopped (u ∷ us) e is = by (option_eq nat_eq (use_count z es u) (Some u.args)) is (stopped us e)
    where
      by : (b : Bool) → (if b then uses_at any z es us else Err (call_fault any u)) ≡ Err e
          → (uses_at any z es us ≡ Err e → uses_at any z es (us ++ vs) ≡ Err e)
          → (if b then uses_at any z es (us ++ vs) else Err (call_fault any u)) ≡ Err e
      by true is others = others is
      by false is others = is

  fails : (us : List Use) (e : LoadFault) → Fails e (uses_at any z es us) → Fails e (uses_at any z es (us ++ vs))
  fails us e (inl want) = inl want
  fails us e (inr is) = inr (stopped us e is)

pub loop-group-preserved : goal.loop-group-preserved
loop-group-preserved c l h =
    let any = c.args.any_run in
    let z = c.args.unknown_zero in
    let k = c.args.space.now in
    let gs = c.args.groups.now in
    let n = c.loop-group.group-index in
    let g = c.group-item.result in
    let rest = drop (n + 1) gs in
    let cut : drop n gs ≡ g ∷ rest = drop_more gs n g c.loop-group-test.true
    ∙ ap (λ x. x ∷ rest) (sym c.group-item.is) in
    sym (passed any z l.entries (uses_of k rest) (group_uses k g) c.in_ok-check_group.field-0
    (c.in_ok-check_group.ensures l h))
    ∙ ap (λ xs. uses_at any z l.entries (uses_of k xs)) (sym cut) ∙ c.loop-group.invariant l h

pub returns-in_err-check_group : goal.returns-in_err-check_group
returns-in_err-check_group c l h =
    let any = c.args.any_run in
    let z = c.args.unknown_zero in
    let k = c.args.space.now in
    let gs = c.args.groups.now in
    let n = c.loop-group.group-index in
    let g = c.group-item.result in
    let rest = drop (n + 1) gs in
    let e = c.in_err-check_group.field-0.0 in
    let cut : drop n gs ≡ g ∷ rest = drop_more gs n g c.loop-group-test.true
    ∙ ap (λ x. x ∷ rest) (sym c.group-item.is) in
    let gave = err_from_is_err_and c.from_residual.result c.from_residual.ensures.1 in
    let all = ap (λ xs. uses_at any z l.entries (uses_of k xs)) (sym cut) ∙ c.loop-group.invariant l h in
    rw (gave.1, gave.2)
    (subst (Fails e) all (fails any z l.entries (uses_of k rest) (group_uses k g) e (c.in_err-check_group.ensures l h)))
