use Rattle.std.proofs.Common.{rules, ◌≡◌, ◌+◌, ◌++◌, ◌≤◌, ap, ap₂, ◌∙◌, subst, sym, List, Vec, Global, ℕ}
use Rattle.aml_pool.specs.Counting.{times}
use Rattle.aml_pool.specs.Seats.{numbers_of, AreParts, all_of}
use Rattle.aml_pool.proofs.Lots.{parts_append, all_of-append}
use Rattle.aml_pool.proofs.workers.united.Goals as goal

pub returns-clause-share : goal.returns-clause-share
returns-clause-share g c =
    let left = c.requires.left in let right = c.requires.right in let join = c.join-seat.ensures in
    let done : c.append.new.self.items ≡ c.args.left.done.items ++ c.args.right.done.items = search rules in
    let drawn : c.append-2.new.self.items ≡ c.args.left.drawn.items ++ c.args.right.drawn.items = search rules in
    let gives = g.W.Work.gives c.args.work.now in
    let mine = c.args.halves.now.mine in let others = c.args.halves.now.others in
    let whole = parts_append gives mine others _ _ _ _ left.parts right.parts in
    let numbers : numbers_of c.join-seat.result ≡ all_of c.append-2.new.self.items =
    join.numbers ∙ (ap₂ ◌++◌ left.numbers right.numbers ∙ (sym (all_of-append c.args.left.drawn.items c.args.right.drawn.items) ∙ ap all_of (sym drawn))) in
    record {
      board = (join.board.0 ∙ sym (c.requires.board.0.0) ∙ c.requires.cut.0.0, join.board.1 ∙ sym (c.requires.board.0.1) ∙ c.requires.cut.0.1);
      weight = join.weight ∙ (ap₂ ◌+◌ left.weight right.weight ∙ c.requires.cut.1);
      ended = join.ended.0 left.ended;
      numbers = numbers;
      once = λ x. subst (λ l. times x l ≤ 1) numbers (c.join-seat.result.once x);
      parts = subst (λ (p : List (ℕ × g.row.W-Done.Denot) × List (Vec ℕ Global)). AreParts gives (mine + others) p.0 p.1) (λ i. (sym done i, sym drawn i))
          whole;
    }
