use Rattle.std.proofs.Common.{◌≡◌, ◌-◌, map}
use Rattle.std.specs.Prelude.{All}
use Rattle.std.specs.List.Sorted.{IsStrictlyIncreasing}
use Rattle.aml_pool.specs.Seats.{numbers_of, weight_of, IsDrawing, IsSeatOf}
use Rattle.aml_pool.proofs.Lots.{above}
use Rattle.aml_pool.proofs.workers.alone.Given as goal

abbrev pub invariant-loop-number : goal.invariant-loop-number
invariant-loop-number g l = record {
  board : IsSeatOf l.board l.seat;
  weight : weight_of l.seat ≡ weight_of l.fn.seat;
  drawing : IsDrawing l.seat;
  numbers : numbers_of l.seat ≡ l.mine.items;
  done : map (λ p. p.0) l.done.items ≡ l.mine.items;
  ascending : IsStrictlyIncreasing l.mine.items;
  results : All (λ p. g.W.Work.gives l.work p.0 p.1) l.done.items;
}

abbrev pub decreases-loop-number : goal.decreases-loop-number
decreases-loop-number g l = l.board.count - above l.mine.items
