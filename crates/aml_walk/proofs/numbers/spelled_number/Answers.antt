use Rattle.std.proofs.Common.{◌≡◌, ℕ, ◌≤◌, List, [], ◌∷◌, length, Option, None, refl, arith}
use Rattle.aml_code.specs.declared.tree.Part.{Part}
use Rattle.aml_code.specs.View.{parts_view}
use Rattle.aml_walk.specs.Numbers.{spelled_number}
use Rattle.aml_walk.proofs.numbers.spelled_number.Goals as goal

abbrev no_number : Option ℕ
no_number = None

-- with two parts or more no number is spelled
of_many : (o : ℕ) (ps : List Part) → 2 ≤ length ps → no_number ≡ spelled_number o (parts_view ps)
of_many o [] many = absurd (omega (arith, many))
of_many o (p ∷ []) many = absurd (omega (arith, many))
of_many o (p ∷ q ∷ ps) many = refl

pub returns-in-len2-up : goal.returns-in-len2-up
returns-in-len2-up c = of_many c.args.opcode c.args.parts.now c.in-len2-up.len_at_least
