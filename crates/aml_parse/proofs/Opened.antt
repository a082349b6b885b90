-- What an opcode is read as that its position takes.
use Rattle.aml_parse.proofs.Common.{◌≡◌, ℕ, zero, suc, false, List, length, Option, Ok, refl, ◌-◌, Seg, is_name_lead}
use Rattle.aml_parse.proofs.Common.{byte_at, read_on, PathSet, Row, Position, TailKind, Arities, arith, ◌<◌}
use Rattle.aml_parse.specs.Reading.{row_at, taken_at, operation_at, is_absent_target, term_at, read_at}

pub opcode_read : (arity : Arities) (scope : Option (List Seg)) (levels : ℕ) (p : Position) (end : ℕ) (ls : PathSet) (bs : List ℕ) (lead : ℕ × List ℕ)
    (row : Row × List ℕ) (k : Option TailKind) → 0 < levels → byte_at end bs ≡ Ok lead → is_name_lead lead.0 ≡ false
    → is_absent_target p lead.0 ≡ false → taken_at p end bs ≡ Ok row → (row.0).tail ≡ k
    → read_at arity scope levels p end ls bs ≡ row_at scope (read_at arity scope (levels - 1)) p (end - length bs) row.0 k end ls row.1
unfolding read_at term_at operation_at
opcode_read arity scope zero p end ls bs lead row k some byte other inside taken tail = absurd (omega (arith, some))
opcode_read arity scope (suc levels) p end ls bs lead row k some byte other inside taken tail =
    let less : suc levels - 1 ≡ levels = omega arith in
    rw less (read_on _ _ _ _ byte (rw (other, inside) (read_on _ _ _ _ taken (rw tail refl))))
