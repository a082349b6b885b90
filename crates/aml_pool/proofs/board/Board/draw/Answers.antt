use Rattle.std.proofs.Common.{rules, ◌<◌, ◌∙◌, sym, ap, arith, subst, ◌≤◌}
use Rattle.std.specs.Prelude.{IsTrue, ◌↔◌, Some, None}
use Rattle.aml_pool.specs.Counting.{times}
use Rattle.aml_pool.specs.Machine.{IsDraw, claimant}
use Rattle.aml_pool.proofs.Counts.{one_more, all_that_stand}
use Rattle.aml_pool.proofs.Moves.{draws, draw_low}
use Rattle.aml_pool.proofs.board.Board.draw.Goals as goal

pub fetch_add-found-requires : goal.fetch_add-found-requires
fetch_add-found-requires c = (
  search rules,
  search rules,
  draws _ _ _ _ (c.requires.board.1 ∙ sym c.args.self.now.known.0)
      (let t = c.args.seat.now.told in omega arith) c.requires.drawing,
)

pub invariant_of-seat : goal.invariant_of-seat
invariant_of-seat c =
    let was = c.args.seat.now in
    let count = c.requires.board.1 in
    let few : c.fetch_add-found.result < was.seat.me.0.count = omega arith in
    let drew = c.fetch_add-found.ensures.2.0.0 few in
    record {
      told = (
        (ap (λ v. v.weight) drew.0 ∙ was.told.0),
        was.told.1,
        was.told.2,
        (subst (λ n. IsTrue was.ended ↔ (0 < n)) (sym (ap (λ v. v.nones) drew.0)) was.told.3),
        c.fetch_add-found.ensures.2.1 ∙ was.told.4,
      );
      once = λ x. subst (λ xs. times x xs ≤ 1) (sym (ap (λ v. v.numbers) drew.0))
          (one_more was.seat.me.0.numbers c.fetch_add-found.result was.once (draw_low _ _ _ _ drew.1) x);
    }

pub returns-then-found-from-clause-some : goal.returns-then-found-from-clause-some
returns-then-found-from-clause-some c =
    let was = c.args.seat.now in
    let few : c.fetch_add-found.result < was.seat.me.0.count = omega arith in
    let drew = c.fetch_add-found.ensures.2.0.0 few in (
      omega arith,
      all_that_stand (λ x. x < c.fetch_add-found.result) was.seat.me.0.numbers (draw_low _ _ _ _ drew.1),
      ap (λ v. v.numbers) drew.0,
      ap (λ v. v.nones) drew.0 ∙ c.requires.drawing,
    )

pub returns-then-found-from-clause-event : goal.returns-then-found-from-clause-event
returns-then-found-from-clause-event c =
    let was = c.args.seat.now in
    let few : c.fetch_add-found.result < was.seat.me.0.count = omega arith in
    subst (λ n. IsDraw n (claimant was.seat.me.0) (Some c.fetch_add-found.result) (claimant c.fetch_add-found.new.seat.me.0)) c.requires.board.1
    (c.fetch_add-found.ensures.2.0.0 few).1

pub returns-else-found-from-clause-event : goal.returns-else-found-from-clause-event
returns-else-found-from-clause-event c =
    let was = c.args.seat.now in
    let many : was.seat.me.0.count ≤ c.fetch_add-found.result = omega arith in
    subst (λ n. IsDraw n (claimant was.seat.me.0) None (claimant c.fetch_add-found.new.seat.me.0)) c.requires.board.1 (c.fetch_add-found.ensures.2.0.1 many).1
