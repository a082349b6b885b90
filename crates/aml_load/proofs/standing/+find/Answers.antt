use Rattle.std.proofs.Common.{◌≡◌, ◌∷◌, ◌++◌, ◌+◌, Ok, Result, drop, sym, ap, subst, ◌∙◌}
use Rattle.std.proofs.lemmas.List.{drop_more}
use Rattle.std.proofs.lemmas.Result.{err_from_is_err_and}
use Rattle.aml_code.specs.View.{node_view, nodes_view}
use Rattle.aml_load.specs.Declaring.{Listed}
use Rattle.aml_load.specs.Runner.{front_at}
use Rattle.aml_load.specs.Standing.{stands}
use Rattle.aml_load.specs.Standings.{standings_view, Found, walk, walk_all, met, met_all, met_within}
use Rattle.aml_load.specs.Tables.{Fails}
use Rattle.aml_load.specs.Walking.{at_site}
use Rattle.aml_load.specs.declared.faults.LoadFault.{LoadFault}
use Rattle.aml_load.proofs.Founds.{found_more, met_on, still_standing, terms_fail, terms_more, terms_stood, walk_on, walk_stops}
use Rattle.aml_load.proofs.Inside.{same_site, still_among, keeps_on}
use Rattle.aml_load.proofs.standing.+find.Goals as goal

pub find_term-returns-in_err-inner-clause-finds : goal.find_term-returns-in_err-inner-clause-finds
find_term-returns-in_err-inner-clause-finds t c l h there =
    let gave = err_from_is_err_and c.from_residual-in_err-inner.result c.from_residual-in_err-inner.ensures.1 in
    rw (gave.1, gave.2) (walk_stops (at_site c.args.progress.now.space c.args.site.now) l (node_view c.args.term.now)
    c.in_err-inner.field-0.0 (c.in_err-inner.ensures.enters l h))

pub find_term-returns-clause-finds : goal.find_term-returns-clause-finds
find_term-returns-clause-finds t c l h there =
    let old = c.args.progress.now in
    let mid = c.enter_term.new.self in
    let new = c.find_inside.new.progress in
    let site = at_site old.space c.args.site.now in
    let x = node_view c.args.term.now in
    let before = c.args.found.now.items in
    let found = c.add_term.new.found.items in
    let after = c.find_inside.new.found.items in
    let all = c.in_ok-add_term.ensures.numbered old.space c.requires there in
    let stays = c.in_ok-inner.ensures.stays in
    let came = (c.in_ok-inner.ensures.enters l h).1 in
    let inner = front_at (at_site mid.space c.in_ok-inner.inner) came.0 in
    let did = c.find_inside.ensures.finds came.0 came.1 (still_standing old.space mid.space stays found all) in
    let both = found_more old mid new before found after c.find_inside.result _ (stands site x) _ stays all (c.in_ok-add_term.ensures.found old.space) did in
    subst (Found old new before after c.find_inside.result (walk site l x)) (sym (met_on site l x inner came.2))
    (subst (λ (w : Result Listed LoadFault). Found old new before after c.find_inside.result w (stands site x ∷ met_within inner.site came.0 x))
    (sym (walk_on site l x inner came.2)) both)

pub find_terms-returns-in_err-find_term-clause-finds : goal.find_terms-returns-in_err-find_term-clause-finds
find_terms-returns-in_err-find_term-clause-finds t c l h there =
    let site = at_site c.args.progress.now.space c.args.site.now in
    let terms = c.args.terms.now in
    let n = c.loop-term.term-index in
    let x = c.term-item.result in
    let rest = drop (n + 1) terms in
    let e = c.in_err-find_term.field-0.0 in
    let cut : drop n terms ≡ x ∷ rest = drop_more terms n x c.loop-term-test.true ∙ ap (λ x. x ∷ rest) (sym c.term-item.is) in
    let before = c.loop-term.invariant.finds l h there in
    let gave = err_from_is_err_and c.from_residual.result c.from_residual.ensures.1 in
    let here = subst (λ w. Fails e (walk w before.0 (node_view x)))
    (same_site c.args.progress.now.space c.loop-term.progress.space c.loop-term.invariant.stays c.args.site.now c.requires)
    (c.in_err-find_term.ensures.finds before.0 before.1 before.2) in
    rw (gave.1, gave.2) (subst (Fails e) (ap (λ xs. walk_all site before.0 (nodes_view xs)) (sym cut) ∙ before.3)
    (terms_fail site before.0 (node_view x) (nodes_view rest) e here))

pub find_terms-loop-term-preserved : goal.find_terms-loop-term-preserved
find_terms-loop-term-preserved t c = record {
  stays = keeps_on c.args.progress.now.space c.loop-term.progress.space c.find_term.new.progress.space c.loop-term.invariant.stays c.in_ok-find_term.ensures.stays;
  inside = still_among c.loop-term.progress.space c.find_term.new.progress.space c.in_ok-find_term.ensures.stays c.args.site.now.scope c.loop-term.invariant.inside;
  finds = λ l h there.
      let old = c.args.progress.now in
      let mid = c.loop-term.progress in
      let new = c.find_term.new.progress in
      let site = at_site old.space c.args.site.now in
      let terms = c.args.terms.now in
      let n = c.loop-term.term-index in
      let x = c.term-item.result in
      let rest = drop (n + 1) terms in
      let cut : drop n terms ≡ x ∷ rest = drop_more terms n x c.loop-term-test.true ∙ ap (λ x. x ∷ rest) (sym c.term-item.is) in
      let before = c.loop-term.invariant.finds l h there in
      let m = before.0 in
      let here = subst (λ w. Found mid new c.loop-term.found.items c.find_term.new.found.items (Ok c.in_ok-find_term.field-0) (walk w m (node_view x))
      (met w m (node_view x))) (same_site old.space mid.space c.loop-term.invariant.stays c.args.site.now c.requires)
      (c.in_ok-find_term.ensures.finds m before.1 before.2) in (
        here.0,
        here.1,
        here.3.numbered,
        terms_more site m here.0 (node_view x) (nodes_view rest) here.2 ∙ ap (λ xs. walk_all site m (nodes_view xs)) (sym cut) ∙ before.3,
        terms_stood old.space mid.space new.space c.args.found.now.items c.loop-term.found.items c.find_term.new.found.items site m here.0
            (node_view x) (nodes_view rest) (met_all site l (nodes_view terms)) here.2 here.3.found
            (ap (λ xs. standings_view mid.space c.loop-term.found.items ++ met_all site m (nodes_view xs)) (sym cut) ∙ before.4),
      );
}
