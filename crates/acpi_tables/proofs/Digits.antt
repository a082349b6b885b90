-- The digits that end a name's stem, and the stem itself.
use Rattle.acpi_tables.proofs.Common.{◌≡◌, ℕ, zero, suc, ◌+◌, ◌-◌, ◌*◌, ◌^◌, ◌<◌, ◌≤◌, Bool, true, false, List, [], ◌∷◌}
use Rattle.acpi_tables.proofs.Common.{length, take, reverse, Some, None, take_while, get_or, cond, ltb, refl, sym, ap}
use Rattle.acpi_tables.proofs.Common.{◌∙◌, arith, ltb-false, length-reverse, reverse-append, take_more, take_while-cons}
use Rattle.acpi_tables.proofs.Common.{cond_some, nat_tests, before_last, position, position_or_len, digits_value}
use Rattle.acpi_tables.proofs.Common.{nat_eq}
use Rattle.std.proofs.Math.Nat.{pow-suc, pow-le-pow_right, one-le-pow}
use Rattle.std.proofs.lemmas.Int.Digits.{digits_value_push}
use Rattle.std.proofs.Math.Seq.{take-length}
use Rattle.std.specs.Char.{digit_value, is_ascii_digit}

pub power_more : (count : ℕ) → 0 < count → 10 ^ count ≡ 10 * 10 ^ (count - 1)
power_more zero h = absurd (omega arith)
power_more (suc n) h = let e : suc n - 1 ≡ n = omega arith in omega (arith, pow-suc 10 n, ap (λ k. 10 ^ k) e)

pub power_positive : (count : ℕ) → 0 < 10 ^ count
power_positive count = omega (arith, one-le-pow count 10 (omega arith))

pub power_small : (count : ℕ) → count < 10 → 10 ^ count ≤ 1000000000
power_small count h = let le : count ≤ 9 = omega arith in pow-le-pow_right {n = 10} (omega arith) le

-- the last decimal digits of some bytes, at most so many
abbrev ending_digits : ℕ → List ℕ → List ℕ
ending_digits count bytes = reverse (take count (take_while is_ascii_digit (reverse bytes)))

reverse_last : (bytes : List ℕ) → 0 < length bytes
    → reverse bytes ≡ get_or bytes (length bytes - 1) 0 ∷ reverse (take (length bytes - 1) bytes)
reverse_last bytes some =
    let n = length bytes - 1 in
    let all : n + 1 ≡ length bytes = omega arith in
    let inside : n < length bytes = omega arith in
    ap reverse (sym (take-length bytes) ∙ ap (λ k. take k bytes) (sym all) ∙ take_more bytes n 0 inside)
    ∙ reverse-append (take n bytes) (get_or bytes n 0 ∷ [])

digit_is : (c : ℕ) → 48 ≤ c → c < 58 → (is_ascii_digit c ≡ true) × (digit_value c ≡ c - 48)
digit_is c low high = (grind (arith, nat_tests), grind (arith, nat_tests))

-- one more digit at the end
pub digits_value-digit : (bytes : List ℕ) (count : ℕ) → 0 < count → 0 < length bytes
    → 48 ≤ get_or bytes (length bytes - 1) 0
    → get_or bytes (length bytes - 1) 0 < 58
    → digits_value 10 (ending_digits count bytes)
    ≡ digits_value 10 (ending_digits (count - 1) (take (length bytes - 1) bytes)) * 10 + (get_or bytes (length bytes - 1) 0 - 48)
digits_value-digit bytes zero more some low high = absurd (omega arith)
digits_value-digit bytes (suc n) more some low high =
    let digit = get_or bytes (length bytes - 1) 0 in
    let others = reverse (take (length bytes - 1) bytes) in
    let is = digit_is digit low high in
    let fewer : suc n - 1 ≡ n = omega arith in
    ap (λ l. digits_value 10 (reverse (take (suc n) (take_while is_ascii_digit l)))) (reverse_last bytes some)
    ∙ ap (λ l. digits_value 10 (reverse (take (suc n) l)))
    (take_while-cons is_ascii_digit digit others ∙ ap (λ b. cond b (digit ∷ take_while is_ascii_digit others) []) is.0)
    ∙ ap (digits_value 10) (reverse-append (digit ∷ []) (take n (take_while is_ascii_digit others)))
    ∙ digits_value_push 10 (reverse (take n (take_while is_ascii_digit others))) digit
    ∙ ap (λ k. digits_value 10 (reverse (take k (take_while is_ascii_digit others))) * 10 + digit_value digit) (sym fewer)
    ∙ ap (λ d. digits_value 10 (ending_digits (suc n - 1) (take (length bytes - 1) bytes)) * 10 + d) is.1

-- ---- what stands before the last dot, by how many bytes stand after it

missing : (test : Bool) (index : ℕ) → cond test (Some index) None ≡ None → test ≡ false
missing true index is = cc
missing false index is = refl

abbrev is_dot : ℕ → Bool
is_dot c = nat_eq c 46

module _ (name : List ℕ) where
  abbrev after : ℕ
  after = position_or_len is_dot (reverse name)

  pub before_last-found : (n : ℕ) → position is_dot (reverse name) ≡ Some n
      → take (length name - n - 1) name ≡ before_last is_dot name
  before_last-found n is = ap (λ k. take (length name - k - 1) name) (sym (cond_some (ltb after (length (reverse name))) after n is).1)

  pub before_last-none : position is_dot (reverse name) ≡ None → [] ≡ before_last is_dot name
  before_last-none is =
      let past : length name ≤ after = omega (arith, length-reverse name, ltb-false _ _ (missing (ltb after (length (reverse name))) after is)) in
      let none : length name - after - 1 ≡ 0 = omega arith in
      ap (λ k. take k name) (sym none)
