use Rattle.std.proofs.Common.{rules, arith}
use Rattle.aml_pool.proofs.Moves.{splits}
use Rattle.aml_pool.proofs.board.Board.split_view.Goals as goal

pub split_seat-requires : goal.split_seat-requires
split_seat-requires g c = let is = c.requires.board.1 in let low = c.requires.weight.0 in let high = c.requires.weight.1 in
    (search rules, search rules, splits _ _ g.P.Part.part _ (omega arith) (omega arith) c.requires.weight.2)
