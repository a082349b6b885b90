use Rattle.aml_text.proofs.Common.{◌≡◌, ℕ, List, ◌++◌, drop, Prints, blocks_text, bodies_lines}
use Rattle.aml_text.proofs.tables.print_tables.Given as goal

abbrev pub invariant-loop-table : goal.invariant-loop-table
invariant-loop-table g l =
    (done : List ℕ) × Prints g.W.Write.contents l.initial.out l.out done
    × (done ++ blocks_text (drop l.table (g.T.Blocks.blocks l.tables)) (bodies_lines l.rest) ≡ blocks_text (g.T.Blocks.blocks l.tables) (bodies_lines l.bodies))
