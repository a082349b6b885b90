use Rattle.aml_pool.proofs.Moves.{follows_machine}
use Rattle.aml_pool.proofs.board.Board.new.Goals as goal

pub returns-in_err-table-clause-machine : goal.returns-in_err-table-clause-machine
returns-in_err-table-clause-machine c = follows_machine c.args.count

pub returns-clause-machine : goal.returns-clause-machine
returns-clause-machine c = follows_machine c.args.count
