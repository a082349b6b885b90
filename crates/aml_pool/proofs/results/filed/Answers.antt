use Rattle.std.proofs.Common.{rules, ◌≡◌, ◌∷◌, ◌++◌, [], map, length, length-set, Some, set, sym, ap, ◌∙◌, subst, refl}
use Rattle.std.proofs.Common.{arith}
use Rattle.aml_pool.proofs.Counts.{yes_one}
use Rattle.std.specs.Prelude.{All}
use Rattle.aml_pool.specs.Counting.{times, same, free, AllGive}
use Rattle.aml_pool.specs.Seats.{Files}
use Rattle.aml_pool.proofs.Places.{free-vacant, times-last, all-first, all-last, free-filed, gives-filed, refuses-taken}
use Rattle.aml_pool.proofs.Places.{vacant-none}
use Rattle.aml_pool.proofs.results.filed.Goals as goal

pub loop-number-preserved : goal.loop-number-preserved
loop-number-preserved g c =
    let gives = g.W.Work.gives c.args.work.now in
    let rest = c.pop.new.self.items in let n = c.in-Some.number in let d = c.in-Some.found in
    let slots = c.loop-number.shelf.slots.items in
    let inv = c.loop-number.invariant in
    let items : c.loop-number.done.items ≡ rest ++ (n, d) ∷ [] = c.in-Some.ensures.items in
    let filed : Files slots n d c.put.new.self.slots.items = c.in-Ok.ensures.ok in let one = free-vacant slots n filed.0 in
    let all = subst (All (λ p. gives p.0 p.1)) items inv.1 in (
      (λ x.
          let last = times-last rest n d x in
          let was : times x (map (λ p. p.0) (rest ++ (n, d) ∷ [])) ≡ free x slots = ap (λ l. times x (map (λ p. p.0) l)) (sym items) ∙ inv.0 x in
          let less = free-filed slots n x d one in
          let now : times x (map (λ p. p.0) rest) ≡ free x (set slots n (Some d)) = omega arith in
          now ∙ ap (free x) (sym filed.1)),
      all-first (λ p. gives p.0 p.1) rest (n, d) all,
      subst (AllGive gives) (sym filed.1) (gives-filed gives slots n d inv.2 (all-last (λ p. gives p.0 p.1) rest (n, d) all)),
      ap length filed.1 ∙ (length-set slots n (Some d) ∙ inv.3),
    )

pub unreachable-requires : goal.unreachable-requires
unreachable-requires g c =
    let rest = c.pop.new.self.items in let n = c.in-Some.number in let d = c.in-Some.found in
    let slots = c.loop-number.shelf.slots.items in
    let items : c.loop-number.done.items ≡ rest ++ (n, d) ∷ [] = c.in-Some.ensures.items in
    let was : times n (map (λ p. p.0) (rest ++ (n, d) ∷ [])) ≡ free n slots = ap (λ l. times n (map (λ p. p.0) l)) (sym items) ∙ c.loop-number.invariant.0 n in
    let last = times-last rest n d n in
    let none = refuses-taken slots n d c.in_default-put.field-0 c.in_default-put.ensures.err.0 in
    let one : same n n ≡ 1 = yes_one n n refl in
    absurd (omega arith)

pub returns-clause-full : goal.returns-clause-full
returns-clause-full g c =
    let empty : c.loop-number.done.items ≡ [] = search rules in
    vacant-none c.loop-number.shelf.slots.items (λ x. sym (c.loop-number.invariant.0 x) ∙ ap (λ l. times x (map (λ p. p.0) l)) empty)
