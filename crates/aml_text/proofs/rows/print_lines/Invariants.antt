use Rattle.std.specs.Prelude.{length}
use Rattle.aml_text.proofs.RowLines.{PrintedTo}
use Rattle.aml_text.proofs.rows.print_lines.Given as goal

abbrev pub invariant-rows : goal.invariant-rows
invariant-rows g l = PrintedTo g.W.Write.contents l.initial.out l.out l.fn.rows l.left

abbrev pub decreases-rows : goal.decreases-rows
decreases-rows g l = length l.left
