-- What stands around arguments and parts, as it is printed.
use Rattle.std.proofs.Common.{◌≡◌, ℕ, zero, suc, Bool, true, false, cond, [], ◌++◌, Some, refl, ap}
use Rattle.aml_code.specs.Opcodes.{Row}
unfoldable use Rattle.asl_text.specs.Pieces.{opened, closed, row_opening, row_closing}
use Rattle.asl_text.specs.Texts.{is_constant}
use Rattle.text_writer.specs.Prints.{word}

pub opened_none : (n : ℕ) → n ≡ 0 → opened n ≡ []
unfolding opened
opened_none zero e = refl
opened_none (suc n) e = absurd cc

pub opened_some : (n : ℕ) → (n ≡ 0 → ⊥) → opened n ≡ word " ("
unfolding opened
opened_some zero e = absurd (e refl)
opened_some (suc n) e = refl

pub closed_none : (n : ℕ) → n ≡ 0 → closed n ≡ []
unfolding closed
closed_none zero e = refl
closed_none (suc n) e = absurd cc

pub closed_some : (n : ℕ) → (n ≡ 0 → ⊥) → closed n ≡ word ")"
unfolding closed
closed_some zero e = absurd (e refl)
closed_some (suc n) e = refl

module _ (r : Row) (n : ℕ) where
  pub opening_constant : is_constant r ≡ true → row_opening (Some r) n ≡ []
  unfolding row_opening
  opening_constant e = ap (λ (b : Bool). cond b [] (r.mnemonic ++ opened n)) e

  pub opening_other : is_constant r ≡ false → row_opening (Some r) n ≡ r.mnemonic ++ opened n
  unfolding row_opening
  opening_other e = ap (λ (b : Bool). cond b [] (r.mnemonic ++ opened n)) e

  pub closing_constant : is_constant r ≡ true → row_closing (Some r) n ≡ []
  unfolding row_closing
  closing_constant e = ap (λ (b : Bool). cond b [] (closed n)) e

  pub closing_other : is_constant r ≡ false → row_closing (Some r) n ≡ closed n
  unfolding row_closing
  closing_other e = ap (λ (b : Bool). cond b [] (closed n)) e

pub ruleset around_parts = (opening_constant, opening_other, closing_constant, closing_other)

pub ruleset printing = (opened_none, opened_some, closed_none, closed_some, around_parts)
