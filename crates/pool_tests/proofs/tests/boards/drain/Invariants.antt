use Rattle.std.proofs.Common.{◌≡◌}
use Rattle.aml_pool.specs.Seats.{weight_of, IsDrawing, IsSeatOf}
use Rattle.pool_tests.proofs.tests.boards.drain.Given as goal

abbrev pub invariant-loop : goal.invariant-loop
invariant-loop l = IsSeatOf l.board l.seat × (weight_of l.seat ≡ weight_of l.fn.seat) × IsDrawing l.seat
