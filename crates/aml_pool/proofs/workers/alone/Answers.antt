use Rattle.std.proofs.Common.{rules, ◌≡◌, ◌-◌, ◌<◌, ◌++◌, ◌∷◌, [], ap, ◌∙◌, sym, subst, arith, map}
use Rattle.std.specs.Prelude.{All}
use Rattle.std.specs.List.Sorted.{IsStrictlyIncreasing}
use Rattle.std.proofs.lemmas.List.{map-append}
use Rattle.std.proofs.lemmas.List.Elements.{All-push}
use Rattle.aml_pool.proofs.Lots.{above, above-le, above-more, increasing_more}
use Rattle.aml_pool.proofs.workers.alone.Goals as goal

pub loop-number-smaller : goal.loop-number-smaller
loop-number-smaller g c =
    let n = c.in-Some.number in let inv = c.loop-number.invariant in let some_n = c.in-Some.ensures.some in
    let mine_now : c.push-in-Some.new.self.items ≡ c.loop-number.mine.items ++ n ∷ [] = search rules in
    let low : All (λ x. x < n) c.loop-number.mine.items = subst (All (λ x. x < n)) inv.numbers some_n.1 in
    let under = above-le n c.loop-number.mine.items low in
    let over = above-more n c.loop-number.mine.items in
    let few = some_n.0 in
    let smaller : c.args.board.now.count - above (c.loop-number.mine.items ++ n ∷ []) < c.args.board.now.count - above c.loop-number.mine.items = omega arith in
    subst (λ l. c.args.board.now.count - above l < c.args.board.now.count - above c.loop-number.mine.items) (sym mine_now) smaller

pub loop-number-preserved : goal.loop-number-preserved
loop-number-preserved g c =
    let n = c.in-Some.number in let inv = c.loop-number.invariant in let some_n = c.in-Some.ensures.some in
    let gives = g.W.Work.gives c.args.work.now in
    let mine = c.loop-number.mine.items in let done = c.loop-number.done.items in
    let mine_now : c.push-in-Some.new.self.items ≡ mine ++ n ∷ [] = search rules in
    let done_now : c.push.new.self.items ≡ done ++ (n, c.in_ok-found.found) ∷ [] = search rules in
    let low : All (λ x. x < n) mine = subst (All (λ x. x < n)) inv.numbers some_n.1 in record {
      board = c.in-Some.ensures.board;
      weight = c.in-Some.ensures.weight ∙ inv.weight;
      drawing = some_n.3;
      numbers = some_n.2 ∙ (ap (λ xs. xs ++ n ∷ []) inv.numbers ∙ sym mine_now);
      done = ap (map (λ p. p.0)) done_now ∙ (map-append (λ p. p.0) done ((n, c.in_ok-found.found) ∷ []) ∙ (ap (λ xs. xs ++ n ∷ []) inv.done ∙ sym mine_now));
      ascending = subst IsStrictlyIncreasing (sym mine_now) (increasing_more n mine inv.ascending low);
      results = subst (All (λ p. gives p.0 p.1)) (sym done_now) (All-push (λ p. gives p.0 p.1) done (n, c.in_ok-found.found) inv.results c.in_ok-found.ensures);
    }
