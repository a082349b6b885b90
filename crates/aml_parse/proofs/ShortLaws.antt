-- Terms of one or two bytes, as they are read and told, and no arguments.
use Rattle.aml_parse.proofs.Common.{◌≡◌, ℕ, ◌<◌, ◌-◌, false, List, [], ◌∷◌, Option, Some, None, Ok, refl, ◌∙◌}
use Rattle.aml_parse.proofs.Common.{PathSet, Row, Role, Position, PartKind, Arities, Seg, Tree, no_trees, op, byte, Parts, no_parts, part_more, empty}
use Rattle.aml_parse.proofs.Common.{byte_at, little_at, is_name_lead, with_declared, row_of, takes, ok_or, ◌>>=◌, CodeFault}
use Rattle.aml_parse.proofs.Common.{row_opcode, rows_say, not_true, not, eqb-true, sym, subst, length, Bool, true, ◌+◌, ◌==◌, Err, Result}
unfoldable use Rattle.aml_parse.proofs.Common.{rows}
use Rattle.std.specs.Prelude.{if◌then◌else◌}
use Rattle.aml_parse.specs.Reading.{Reader, read_at, taken_at, opcode_at, refusal, parts_at, arguments_at, is_absent_target}
use Rattle.aml_code.specs.Pieces.{Told, opcode, end_of_parts, part, tail, pieces}
use Rattle.aml_parse.proofs.Opened.{opcode_read}
use Rattle.aml_parse.proofs.Common.{nothing, ap, take, drop, get_or, ◌≤◌, arith}
use Rattle.std.proofs.lemmas.List.{take_all}
use Rattle.aml_parse.proofs.TellLaws.{nothing_read, plain_is, told_op, Further}

-- ---- what a position takes begins no name, and is no absent target

no_name : (o : ℕ) (r : Row) → row_of o ≡ Some r → is_name_lead o ≡ false
unfolding rows
no_name o r e = subst (λ (n : ℕ). is_name_lead n ≡ false) (row_opcode o r e)
    (not_true _ (rows_say (λ r. true) (λ r. not (is_name_lead r.opcode)) refl o r e refl))

no_target : (p : Position) (o : ℕ) (r : Row) → row_of o ≡ Some r → takes p r.place ≡ true → is_absent_target p o ≡ false
unfolding rows
no_target Position.Target o r e h = subst (λ (n : ℕ). (n == 0x00) ≡ false) (row_opcode o r e)
    (not_true _ (rows_say (λ r. takes Position.Target r.place) (λ r. not (r.opcode == 0x00)) refl o r e h))
no_target _ o r e h = refl

no_target_there : (p : Position) → is_absent_target p 0x5B ≡ false
no_target_there Position.Target = refl
no_target_there _ = refl

target_no_name : (p : Position) (b : ℕ) → is_absent_target p b ≡ true → is_name_lead b ≡ false
target_no_name Position.Target b h = subst (λ (n : ℕ). is_name_lead n ≡ false) (sym (eqb-true b 0x00 h)) refl
target_no_name _ b h = absurd cc

is_taken : (b : Bool) (f : CodeFault) (x y : Row × List ℕ) → (if b then Ok x else Err f) ≡ Ok y → b ≡ true
is_taken true f x y h = refl
is_taken false f x y h = absurd cc

-- an opcode, by whether its first byte is the one before a second
abbrev opcode_by : ℕ → ℕ → List ℕ → Bool → Result (ℕ × List ℕ) CodeFault
opcode_by end b bs t = if t then (byte_at end bs >>= λ second. Ok (0x5B00 + second.0, second.1)) else Ok (b, bs)

module _ (p : Position) (end : ℕ) (e : CodeFault) (F : Row → CodeFault) (b : ℕ) (bs : List ℕ) (x : Row × List ℕ) where
  by_found : (found : Option Row) → row_of b ≡ found
      → (ok_or found e >>= λ row. if takes p row.place then Ok (row, bs) else Err (F row)) ≡ Ok x
      → (is_name_lead b ≡ false) × (is_absent_target p b ≡ false)
  by_found (Some r) is h = (no_name b r is, no_target p b r is (is_taken (takes p r.place) (F r) (r, bs) x h))
  by_found None is h = absurd cc

  by_byte : (t : Bool) → (b == 0x5B) ≡ t
      → (opcode_by end b bs t >>= λ o. ok_or (row_of o.0) e >>= λ row. if takes p row.place then Ok (row, o.1) else Err (F row)) ≡ Ok x
      → (is_name_lead b ≡ false) × (is_absent_target p b ≡ false)
  by_byte true is h =
      let b_is : 0x5B ≡ b = sym (eqb-true b 0x5B is) in
      (subst (λ (n : ℕ). is_name_lead n ≡ false) b_is refl, subst (λ (n : ℕ). is_absent_target p n ≡ false) b_is (no_target_there p))
  by_byte false is h = by_found (row_of b) refl h

pub taken_opens : (p : Position) (end : ℕ) (bs : List ℕ) (row : Row × List ℕ) → taken_at p end bs ≡ Ok row
    → (lead : ℕ × List ℕ) × ((byte_at end bs ≡ Ok lead) × ((is_name_lead lead.0 ≡ false) × (is_absent_target p lead.0 ≡ false)))
unfolding taken_at opcode_at
taken_opens p end [] row h = absurd cc
taken_opens p end (b ∷ bs) row h =
    let fault = end - length (b ∷ bs) in
    ((b, bs), (refl, by_byte p end (CodeFault.UnknownOp fault) (λ r. refusal p r.place fault) b bs row (b == 0x5B) refl h))

-- ---- what is read

-- an absent target
pub absent_read : (arity : Arities) (scope : Option (List Seg)) (levels : ℕ) (p : Position) (end : ℕ) (ls : PathSet) (bs : List ℕ)
    → 0 < levels → 1 ≤ length bs → is_absent_target p (get_or bs 0 0) ≡ true
    → read_at arity scope levels p end ls bs ≡ Ok (nothing, ls, take (length bs - 1) (drop 1 bs))
absent_read arity scope levels p end ls [] some has is = absurd (omega (arith, has))
absent_read arity scope levels p end ls (b ∷ bs) some has is =
    nothing_read arity scope p end ls (b ∷ bs) levels (b, bs) some refl (target_no_name p b is) is
    ∙ ap (λ (rest : List ℕ). Ok (nothing, ls, rest)) (sym (take_all (length (b ∷ bs) - 1) bs (omega arith)))

none_declared : (scope : Option (List Seg)) (ls : PathSet) → ls ≡ with_declared scope ls []
none_declared None ls = refl
none_declared (Some s) ls = refl

module _ (read : Position → Reader Tree) (end : ℕ) (ls : PathSet) (bs : List ℕ) where
  pub none_read : arguments_at read 0 end ls bs ≡ Ok (no_trees, ls, bs)
  unfolding arguments_at
  none_read = refl

  no_parts_read : parts_at read [] end ls bs ≡ Ok (no_parts, ls, bs)
  unfolding parts_at
  no_parts_read = refl

  byte_read : (n : ℕ) (rest : List ℕ) → little_at 1 end bs ≡ Ok (n, rest)
      → parts_at read (PartKind.Byte ∷ []) end ls bs ≡ Ok (part_more (byte n) no_parts, ls, rest)
  unfolding parts_at
  byte_read n rest is = rw is refl

module _ (arity : Arities) (scope : Option (List Seg)) (levels : ℕ) (p : Position) (end : ℕ) (ls : PathSet) (bs : List ℕ)
    (row : Row) (behind : List ℕ) (some : 0 < levels) (taken : taken_at p end bs ≡ Ok (row, behind))
    (no_tail : row.tail ≡ None) (declares : row.role ≡ Role.Other) where
  by_parts : (ps : Parts) (rest : List ℕ) → parts_at (read_at arity scope (levels - 1)) row.parts end ls behind ≡ Ok (ps, ls, rest)
      → read_at arity scope levels p end ls bs ≡ Ok (op row.opcode None ps empty, ls, rest)
  by_parts ps rest parts =
      let opens = taken_opens p end bs (row, behind) taken in
      opcode_read arity scope levels p end ls bs opens.0 (row, behind) None some opens.1.0 opens.1.1.0 opens.1.1.1 taken no_tail
      ∙ plain_is scope (read_at arity scope (levels - 1)) row end ls behind ps ls ls rest parts (rw declares (none_declared scope ls))

  -- an opcode behind which nothing stands
  pub bare_read : row.parts ≡ [] → read_at arity scope levels p end ls bs ≡ Ok (op row.opcode None no_parts empty, ls, behind)
  bare_read bare = by_parts no_parts behind (rw bare (no_parts_read (read_at arity scope (levels - 1)) end ls behind))

  -- or a byte
  pub with_byte_read : (n : ℕ) (rest : List ℕ) → row.parts ≡ PartKind.Byte ∷ [] → little_at 1 end behind ≡ Ok (n, rest)
      → read_at arity scope levels p end ls bs ≡ Ok (op row.opcode None (part_more (byte n) no_parts) empty, ls, rest)
  with_byte_read n rest has is =
      by_parts (part_more (byte n) no_parts) rest (rw has (byte_read (read_at arity scope (levels - 1)) end ls behind n rest is))

module _ {S : Type 0} (grew : S → S → List Told → Type 0) (further : Further grew) (level : ℕ) (row : Row) (n : ℕ) (listed : row_of row.opcode ≡ Some row) where
  pub told_bare : (a b c d : S) → grew b b [] → 0 ≡ n → grew a b (opcode row.opcode (Some row) None n ∷ [])
      → grew b c (end_of_parts (Some row) n ∷ []) → grew c d (tail empty ∷ []) → grew a d (pieces level (op row.opcode None no_parts empty))
  told_bare a b c d none is x y z = told_op grew further level a b b c d row.opcode (Some row) n None no_parts empty listed is x none y z

  pub told_with_byte : (a b c d e : S) (v : ℕ) → 1 ≡ n → grew a b (opcode row.opcode (Some row) None n ∷ []) → grew b c (part (byte v) ∷ [])
      → grew c d (end_of_parts (Some row) n ∷ []) → grew d e (tail empty ∷ []) → grew a e (pieces level (op row.opcode None (part_more (byte v) no_parts) empty))
  told_with_byte a b c d e v is x y z w =
      told_op grew further level a b c d e row.opcode (Some row) n None (part_more (byte v) no_parts) empty listed is x y z w
