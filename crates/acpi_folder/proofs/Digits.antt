-- Numbers in hexadecimal digits.
use Rattle.acpi_folder.proofs.Common.{◌≡◌, ℕ, zero, suc, ◌+◌, ◌*◌, ◌^◌, ◌<◌, ◌≤◌, List, [], ◌∷◌, length, take, get_or}
use Rattle.acpi_folder.proofs.Common.{ap, sym, ◌∙◌, arith, lit<, length-take-le, digit_value, AllDigits, digits_value}
use Rattle.std.proofs.lemmas.Int.Digits.{digits_value_more, digits_more, digits_value-lt}
use Rattle.std.proofs.Math.Nat.{pow-le-pow_right}

-- how far digits are read, as a number
pub record IsRead (digits : List ℕ) (i number : ℕ) : Type 0 where
  pub all : AllDigits 16 (take i digits)
  pub same : number ≡ digits_value 16 (take i digits)

module _ (digits : List ℕ) (i number : ℕ) (inside : i < length digits) (read : IsRead digits i number) where
  -- fifteen digits leave room for one more in 64 bits
  pub room : length digits ≡ 16 → number * 16 + 15 < 2 ^ 64
  room long =
      let few : number < 16 ^ i = rw (← read.same, length-take-le i digits (omega (arith, inside))) at (digits_value-lt 16 (take i digits) read.all) in
      let most : 16 ^ i ≤ 16 ^ 15 = pow-le-pow_right (lit< tt) {i = i} {j = 15} (omega (arith, inside, long)) in
      omega (arith, few, most)

  -- a turn of the loop over digits
  pub one_more : (value : ℕ) → digit_value (get_or digits i 0) < 16 → digit_value (get_or digits i 0) ≡ value
      → IsRead digits (i + 1) (number * 16 + value)
  one_more value small is = record {
    all = digits_more 16 digits i inside read.all small;
    same = sym (digits_value_more 16 digits i inside ∙ ap (λ n. n * 16 + digit_value (get_or digits i 0)) (sym read.same)
        ∙ ap (λ d. number * 16 + d) is);
  }

-- what isn't a digit
pub not_digits : (digits : List ℕ) (i : ℕ) → i < length digits → ¬ (digit_value (get_or digits i 0) < 16)
    → ¬ AllDigits 16 digits
not_digits (digit ∷ digits) zero inside wrong all = wrong all.0
not_digits (digit ∷ digits) (suc i) inside wrong all = not_digits digits i (omega arith) wrong all.1
not_digits [] i inside wrong all = absurd (omega arith)
