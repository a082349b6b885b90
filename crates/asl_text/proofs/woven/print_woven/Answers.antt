use Rattle.asl_text.proofs.Common.{◌≡◌, ◌+◌, ◌-◌, ◌++◌, ◌∷◌, [], List, take, drop, length, subst, sym, ap, arith, ◌∙◌}
use Rattle.asl_text.proofs.Common.{add-one, drop-cons, prints_then, Prints, first_lines, bodies_lines}
use Rattle.std.proofs.Common.{slice_index_or}
use Rattle.std.proofs.lemmas.List.{drop_all}
use Rattle.aml_code.specs.Tree.{slice_of}
use Rattle.asl_text.proofs.WovenLaws.{woven_turn, left_turn}
use Rattle.asl_text.specs.Tables.{woven}
use Rattle.asl_text.specs.declared.tables.Place.{Place}
use Rattle.asl_text.proofs.woven.print_woven.Goals as goal

pub loop-place-preserved : goal.loop-place-preserved
loop-place-preserved g c =
    let f = g.W.Write.contents in
    let i = c.loop-place.place-index in
    let places = c.args.places.now in
    let code = c.args.code.now in
    let text = c.args.text.now in
    let from = c.loop-place.from in
    let bs = bodies_lines c.loop-place.rest in
    let others = bodies_lines c.others-rest.result in
    let total = woven code (bodies_lines c.args.bodies) text 0 places in
    let none : Place = record { at = 0; level = 0; start = 0; len = 0 } in
    let p = slice_index_or places i none in
    let cut : drop i places ≡ p ∷ drop (i + 1) places = rw add-one (drop-cons places i none c.loop-place-test.true) in
    let done = c.loop-place.invariant.0 in
    let added = take (p.at - from) (drop from text) ++ first_lines bs p.level (slice_of code p.start p.len) in
    let so_far = ap (λ (xs : List Place). done ++ woven code bs text from xs) (sym cut) ∙ c.loop-place.invariant.2 in
    let left = ap (λ (xs : List Place). drop (length xs) bs) (sym cut) ∙ c.loop-place.invariant.3 in (
      done ++ added,
      prints_then f c.args.out.now c.loop-place.out c.print_place.new.out done added c.loop-place.invariant.1 c.print_place.ensures,
      woven_turn code bs others text from p (drop (i + 1) places) done total c.others-rest.ensures so_far,
      left_turn bs others (length (drop (i + 1) places)) c.others-rest.ensures ∙ left,
    )

pub returns-clause-prints : goal.returns-clause-prints
returns-clause-prints g c =
    let f = g.W.Write.contents in
    let i = c.loop-place.place-index in
    let places = c.args.places.now in
    let text = c.args.text.now in
    let none : drop i places ≡ [] = drop_all i places (omega (arith, c.loop-place-test.false)) in
    let done = c.loop-place.invariant.0 in
    let rest = λ (ps : List Place). woven c.args.code.now (bodies_lines c.loop-place.rest) text c.loop-place.from ps in
    let all = ap (λ l. done ++ l) (c.behind.ensures ∙ ap rest (sym none)) ∙ c.loop-place.invariant.2 in
    subst (Prints f c.args.out.now c.put.new.self) all (prints_then f _ _ _ _ _ c.loop-place.invariant.1 c.put.ensures)
