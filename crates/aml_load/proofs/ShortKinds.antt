-- An opcode has few parts, so that their number can be told.
use Rattle.std.proofs.Common.{◌≡◌, ℕ, ◌+◌, ◌-◌, ◌^◌, ◌<◌, ◌≤◌, min, Bool, true, false, [], Option, Some, None, drop, length, refl, sym, ap, ◌∙◌, arith}
use Rattle.std.proofs.Math.ListN.{drop_of_length-le}
use Rattle.std.proofs.lemmas.List.{drop_more}
use Rattle.std.specs.Prelude.{nat_le, nat_lt}
use Rattle.std.specs.Option.{option_map, unwrap_or}
use Rattle.std.proofs.lemmas.Bool.Decides.{nat_tests}
use Rattle.aml_code.specs.Opcodes.{Row, row_of}
unfoldable use Rattle.aml_code.specs.Opcodes.{rows}
use Rattle.aml_code.specs.declared.rows.PartKind.TheVariants as PartKind
use Rattle.aml_code.proofs.RowFacts.{rows_say}
use Rattle.aml_load.specs.Declaring.{kinds_in}

short_row : (o : ℕ) (r : Row) → row_of o ≡ Some r → nat_le (length r.parts) 7 ≡ true
unfolding rows
short_row o r e = rows_say (λ r. true) (λ r. nat_le (length r.parts) 7) refl o r e refl

min_below : (n : ℕ) → n < 7 → min (n + 1) (2 ^ 64 - 1) ≡ n + 1
min_below n small = grind arith

min_above : (n m : ℕ) → m ≤ 7 → m ≤ n → m ≤ min (n + 1) (2 ^ 64 - 1)
min_above n m few past = grind arith

pub short_kinds : (o : ℕ) → length (kinds_in o) ≤ 7
short_kinds o = by (row_of o) refl
  where
    by : (found : Option Row) → row_of o ≡ found → length (unwrap_or (option_map (λ (r : Row). r.parts) found) []) ≤ 7
    by None e = omega arith
    by (Some r) e = grind (arith, nat_tests, short_row o r e)

-- behind one part more, also where so many were told that their number can't grow
pub kinds_behind : (o n : ℕ) → drop (min (n + 1) (2 ^ 64 - 1)) (kinds_in o) ≡ drop 1 (drop n (kinds_in o))
kinds_behind o n = by (nat_lt n (length (kinds_in o))) refl
  where
    few : length (kinds_in o) ≤ 7
    few = short_kinds o

    by : (b : Bool) → nat_lt n (length (kinds_in o)) ≡ b
        → drop (min (n + 1) (2 ^ 64 - 1)) (kinds_in o) ≡ drop 1 (drop n (kinds_in o))
    by true inside =
        let there : n < length (kinds_in o) = grind (arith, nat_tests, inside) in
        let next : min (n + 1) (2 ^ 64 - 1) ≡ n + 1 = min_below n (omega (arith, there, few)) in
        ap (λ (m : ℕ). drop m (kinds_in o)) next ∙ sym (ap (drop 1) (drop_more (kinds_in o) n PartKind.Byte there))
    by false outside =
        let past : length (kinds_in o) ≤ n = grind (arith, nat_tests, outside) in
        drop_of_length-le (kinds_in o) (min_above n (length (kinds_in o)) few past)
        ∙ sym (ap (drop 1) (drop_of_length-le (kinds_in o) past))
