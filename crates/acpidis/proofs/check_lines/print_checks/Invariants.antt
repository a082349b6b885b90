use Rattle.acpidis.proofs.Common.{take, flat_map, zip, check_line}
use Rattle.text_writer.specs.Prints.{Prints}
use Rattle.acpidis.proofs.check_lines.print_checks.Given as goal

abbrev pub invariant-loop-table : goal.invariant-loop-table
invariant-loop-table g l = Prints g.W.Write.contents l.initial.out l.out
    (flat_map (λ p. check_line p.0.name p.1) (take l.table (zip (g.T.Blocks.blocks l.tables) l.checks)))
