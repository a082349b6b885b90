use Rattle.aml_pool.proofs.board.Board.split.Given as goal

abbrev pub ghosts-split_view : goal.ghosts-split_view
ghosts-split_view a = record { part = a.weight }
