use Rattle.std.specs.Prelude.{take}
use Rattle.aml_text.proofs.Common.{◌≡◌, flat_map, length, Prints, row_line}
use Rattle.aml_text.proofs.pieces.PiecePrint.print.Given as goal

abbrev pub invariant-loop-row : goal.invariant-loop-row
invariant-loop-row g l = record {
  long : length l.window ≡ 64;
  text : Prints g.W.Write.contents l.initial.out l.out (flat_map row_line (take l.row-index l.rows));
}
