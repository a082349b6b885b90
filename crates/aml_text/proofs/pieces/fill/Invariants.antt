use Rattle.std.proofs.Common.{◌≡◌, ◌+◌, ◌≤◌, ◌++◌, vec_capacity, vec_len}
use Rattle.aml_text.proofs.pieces.fill.Given as goal

abbrev pub invariant-loop-place : goal.invariant-loop-place
invariant-loop-place l = record {
  all : l.rows.items ++ l.left ≡ l.fn.rows.items ++ l.fn.left;
  room : vec_len l.rows + 32768 ≤ vec_capacity l.rows + l._place;
}
