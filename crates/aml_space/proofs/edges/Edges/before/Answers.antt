use Rattle.std.proofs.Common.{◌≡◌, ℕ, ◌≤◌, Bool, true, false, IsTrue, refl, arith}
use Rattle.std.specs.Ordering.{nat_cmp, is_lt, is_gt}
use Rattle.std.proofs.lemmas.Grind.{common_steps}
use Rattle.aml_space.specs.Edges.{key_of, has_edge}
use Rattle.aml_space.proofs.edges.Edges.before.Goals as goal

le_key : (a b : ℕ) → a ≤ b → is_gt (nat_cmp a b) ≡ false
le_key a b h = grind (arith, common_steps)

key_le : (a b : ℕ) → is_lt (nat_cmp a b) ≡ false → b ≤ a
key_le a b h = grind (arith, common_steps)

le_found : (a b : ℕ) → is_gt (nat_cmp a b) ≡ false → a ≤ b
le_found a b h = grind (arith, common_steps)

no_edge : (b : Bool) → (IsTrue b → ⊥) → b ≡ false
no_edge true h = absurd (h refl)
no_edge false h = refl

pub returns-then-found-number : goal.returns-then-found-number
returns-then-found-number c = λ p below more. no_edge (has_edge c.args.self.now c.args.seg p) (λ has.
    let within : key_of c.args.seg p ≤ c.key-most.result = omega (arith, below, c.key-most.ensures) in
    let least = key_le c.in_ok-found.field-0.now (key_of c.args.seg p)
    ((c.range.ensures.in_range tt).4 _ _ c.in_ok-found.ensures.steps (key_of c.args.seg p) (tt, le_key (key_of c.args.seg p) c.key-most.result within) has) in
    omega (arith, least, more, c.if-found-number.true, c.number.ensures))

pub returns-else-found-number : goal.returns-else-found-number
returns-else-found-number c = λ p below some. no_edge (has_edge c.args.self.now c.args.seg p) (λ has.
    let within : key_of c.args.seg p ≤ c.key-most.result = omega (arith, below, c.key-most.ensures) in
    let least = key_le c.in_ok-found.field-0.now (key_of c.args.seg p)
    ((c.range.ensures.in_range tt).4 _ _ c.in_ok-found.ensures.steps (key_of c.args.seg p) (tt, le_key (key_of c.args.seg p) c.key-most.result within) has) in
    let most = le_found c.in_ok-found.field-0.now c.key-most.result ((c.range.ensures.in_range tt).3 _ _ c.in_ok-found.ensures.steps).0.1 in
    omega (arith, least, most, c.key-most.ensures, c.requires, c.if-found-number.false, c.number.ensures))
