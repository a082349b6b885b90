use Rattle.std.proofs.Common.{◌≡◌, ◌∷◌, ◌+◌, if◌then◌else◌, false, true, Err, Some, drop, sym, ap, subst, inr, ◌∙◌}
use Rattle.std.specs.Prelude.{nat_eq}
use Rattle.std.specs.Option.{option_eq}
use Rattle.std.proofs.lemmas.List.{drop_more}
use Rattle.aml_namespace.specs.Known.{StandsFor, path_at}
use Rattle.aml_namespace.proofs.Stands.{stands_alone}
use Rattle.aml_space.specs.declared.bodies.BodyNames.{BodyNames}
use Rattle.aml_load.specs.Groups.{named_in, use_in}
use Rattle.aml_load.specs.Declaring.{Listed, use_count, call_fault, uses_at}
use Rattle.aml_load.proofs.loading.check_group.Goals as goal
use Rattle.aml_load.proofs.loading.check_group.Goals.{In_ok-count}

-- what is left begins with the name that is looked at
cut : (c : In_ok-count) → (let g = c.args.group.now in let n = c.loop-asked.asked-index in let p = path_at c.args.space.now g.scope in
    named_in p (drop n g.names.items)
    ≡ use_in p c.asked-item.result ∷ named_in p (drop (n + 1) g.names.items))
cut c =
    let g = c.args.group.now in
    let p = path_at c.args.space.now g.scope in
    let n = c.loop-asked.asked-index in
    let a = c.asked-item.result in
    let xs = c.deref-asked-items.result.now in
    subst (λ names. named_in p (drop n names) ≡ use_in p a ∷ named_in p (drop (n + 1) names))
    c.deref-asked-items.ensures.value (ap (named_in p)
    (drop_more xs n a c.loop-asked-test.true ∙ ap (λ x. x ∷ drop (n + 1) xs) (sym c.asked-item.is)))

known : (c : In_ok-count) → c.names_for-names.result.known ≡ c.loop-asked.names.known
known c = ap (λ (names : BodyNames). names.known) c.names_for-names.ensures

method : (c : In_ok-count) → c.names_for-names.result.method ≡ path_at c.args.space.now c.args.group.now.scope
method c = ap (λ (names : BodyNames). names.method) c.names_for-names.ensures ∙ c.loop-asked.invariant.method

-- how many arguments it takes
told : (c : In_ok-count) (l : Listed) → StandsFor c.args.space.now l.entries
    → c.in_ok-count.count ≡ use_count c.args.unknown_zero l.entries (use_in (path_at c.args.space.now c.args.group.now.scope) c.asked-item.result)
told c l h = c.in_ok-count.ensures l (path_at c.args.space.now c.args.group.now.scope) c.args.unknown_zero
    (subst (λ k. StandsFor k l.entries) (sym (known c ∙ c.loop-asked.invariant.known))
    (stands_alone c.args.space.now l.entries h)) (method c)
    (ap (λ (names : BodyNames). names.unknown_zero) c.names_for-names.ensures)

-- a name that takes as many arguments as were read is passed over
pub loop-asked-preserved : goal.loop-asked-preserved
unfolding uses_at
loop-asked-preserved c =
    let b = (goal.at.loop-asked-preserved c).In_ok-count in
    let z = c.args.unknown_zero in
    let any = c.args.any_run in
    let g = c.args.group.now in
    let p = path_at c.args.space.now g.scope in
    let u = use_in p c.asked-item.result in
    let rest = named_in p (drop (c.loop-asked.asked-index + 1) g.names.items) in
    record {
      passed = λ l h.
          let same : option_eq nat_eq (use_count z l.entries u) (Some u.args) ≡ true =
          ap (λ o. option_eq nat_eq o (Some u.args)) (sym (told b l h)) ∙ sym c.if-not-is_count.ensures in
          sym (ap (uses_at any z l.entries) (cut b)
          ∙ (λ i. if same i then uses_at any z l.entries rest else Err (call_fault any u)))
          ∙ c.loop-asked.invariant.passed l h;
      known = known b ∙ c.loop-asked.invariant.known;
      method = method b;
    }

-- and the first that takes another number is the fault
pub returns-then-not-is_count : goal.returns-then-not-is_count
unfolding uses_at
returns-then-not-is_count c = λ l h.
    let b = (goal.at.returns-then-not-is_count c).In_ok-count in
    let z = c.args.unknown_zero in
    let any = c.args.any_run in
    let g = c.args.group.now in
    let p = path_at c.args.space.now g.scope in
    let u = use_in p c.asked-item.result in
    let rest = named_in p (drop (c.loop-asked.asked-index + 1) g.names.items) in
    let other : option_eq nat_eq (use_count z l.entries u) (Some u.args) ≡ false =
    ap (λ o. option_eq nat_eq o (Some u.args)) (sym (told b l h)) ∙ sym c.if-not-is_count.ensures in
    inr (sym (c.loop-asked.invariant.passed l h) ∙ ap (uses_at any z l.entries) (cut b)
    ∙ (λ i. if other i then uses_at any z l.entries rest else Err (call_fault any u))
    ∙ ap (λ e. Err e) (sym (c.in_ok-call_fault.ensures ∙ ap (λ q. call_fault any (use_in q c.asked-item.result)) c.path.ensures)))
