-- What the nearest local says of the depths from it on: whether one stands there (`local_at`), and of those further
-- down than it that none does (`passed_by`). Where it stands at a depth or further down (`local_met`) the search ends
-- at it (`local_there`); else no local stands at the depth (`no_local`, `other_there`).
use Rattle.std.proofs.Common.{◌≡◌, ℕ, ◌<◌, ◌≤◌, List, [], ◌∷◌, ◌++◌, ◌-◌, Bool, true, false, cond, Option, Some, None}
use Rattle.std.proofs.Common.{is_some, take, get_or, length, refl, sym, ap, ◌∙◌, subst, arith, IfSome}
use Rattle.std.specs.Prelude.{nat_le}
use Rattle.std.specs.FinSet as set
use Rattle.std.proofs.lemmas.Bool.{ne_eqb, leb-true, leb-false, false≢true}
use Rattle.std.proofs.lemmas.Bool.Decides.{nat_tests}
use Rattle.std.proofs.lemmas.Option.{none-some, same_Some}
use Rattle.aml_names.specs.declared.segments.Seg.{Seg}
use Rattle.aml_names.specs.Paths.{PathSet}
use Rattle.aml_names.specs.Searching.{greatest, nearest}
use Rattle.aml_names.proofs.EndLaws.{greatest_within}
use Rattle.aml_namespace.specs.Searching.{stands_at, local_from}
use Rattle.aml_children.proofs.Basics.{alone}
use Rattle.aml_namespace.proofs.Upward.{nearest_tells}

passed : (o : Option ℕ) (asked e : ℕ) → asked < e → IfSome o (λ n. n ≤ asked)
    → IfSome o (λ n. n ≤ e) × (stands_at o e ≡ false)
passed None asked e more above = (tt, refl)
passed (Some n) asked e more above = (omega (arith, more, above), ne_eqb n e (λ same. omega (arith, same, more, above)))

further : (o : Option ℕ) (d : ℕ) → IfSome o (λ n. n < d) → IfSome o (λ n. n ≤ d) × (stands_at o d ≡ false)
further None d less = (tt, refl)
further (Some n) d less = (omega (arith, less), ne_eqb n d (λ same. omega (arith, same, less)))

-- what the nearest local says of the depths from it on
module _ (locals : PathSet) (scope segment : List Seg) (one : length segment ≡ 1) (o : Option ℕ)
    (is : o ≡ nearest locals scope (get_or segment 0 (record { 0 = [] }) ∷ [])) where
  abbrev is_local : ℕ → Bool
  is_local d = set.contains locals (take d scope ++ segment)

  is_greatest : o ≡ greatest is_local (length scope)
  is_greatest = is ∙ ap (nearest locals scope) (alone segment (record { 0 = [] }) one)

  pub near_within : IfSome o (λ n. n ≤ length scope)
  near_within = subst (λ o. IfSome o (λ n. n ≤ length scope)) (sym is_greatest) (greatest_within is_local (length scope))

  pub local_at : (d : ℕ) → d ≤ length scope → IfSome o (λ n. n ≤ d) → stands_at o d ≡ is_local d
  local_at d within above = ap (λ o. stands_at o d) is_greatest
      ∙ sym (nearest_tells is_local (length scope) d within (subst (λ o. IfSome o (λ n. n ≤ d)) is_greatest above))

  pub passed_by : (d asked : ℕ) → d ≤ length scope → IfSome o (λ n. n ≤ asked) → (e : ℕ) → asked < e → e ≤ d
      → set.contains locals (take e scope ++ segment) ≡ false
  passed_by d asked within above e more less =
      sym (local_at e (omega (arith, less, within)) (passed o asked e more above).0) ∙ (passed o asked e more above).1

  pub local_there : (n : ℕ) → o ≡ Some n → set.contains locals (take n scope ++ segment) ≡ true
  local_there n here =
      let within : n ≤ length scope = subst (λ o. IfSome o (λ n. n ≤ length scope)) here near_within in
      sym (local_at n within (subst (λ o. IfSome o (λ m. m ≤ n)) (sym here) (omega arith))) ∙ ap (λ o. stands_at o n) here ∙ grind (arith, nat_tests)

  pub other_there : (d : ℕ) → d ≤ length scope → IfSome o (λ n. n < d)
      → set.contains locals (take d scope ++ segment) ≡ false
  other_there d within less = sym (local_at d within (further o d less).0) ∙ (further o d less).1

-- the nearest local at a depth or further down
pub local_met : (o : Option ℕ) (d n : ℕ) → local_from o d ≡ Some n → (o ≡ Some n) × (d ≤ n)
local_met None d n is = absurd (none-some n is)
local_met (Some m) d n is = by (nat_le d m) refl is
  where
    by : (b : Bool) → nat_le d m ≡ b → cond b (Some m) None ≡ Some n → (Some m ≡ Some n) × (d ≤ n)
    by true less same = (same, omega (arith, same_Some m n same, leb-true d m less))
    by false more none = absurd (none-some n none)

pub no_local : (o : Option ℕ) (d : ℕ) → is_some (local_from o d) ≡ false → IfSome o (λ n. n < d)
no_local None d none = tt
no_local (Some m) d none = by (nat_le d m) refl none
  where
    by : (b : Bool) → nat_le d m ≡ b → is_some (cond b (Some m) None) ≡ false → m < d
    by true less some = absurd (false≢true (sym some))
    by false more none = leb-false d m more

pub none_local : (o : Option ℕ) (d : ℕ) (p : Option ℕ) → p ≡ local_from o d → ((n : ℕ) → p ≡ Some n → ⊥)
    → IfSome o (λ n. n < d)
none_local o d None is none = no_local o d (ap is_some (sym is))
none_local o d (Some n) is none = absurd (none n refl)

pub some_local : (o : Option ℕ) (d : ℕ) → is_some (local_from o d) ≡ true → (n : ℕ) × (o ≡ Some n) × (d ≤ n)
some_local o d some = by (local_from o d) refl some
  where
    by : (p : Option ℕ) → local_from o d ≡ p → is_some p ≡ true → (n : ℕ) × (o ≡ Some n) × (d ≤ n)
    by None is none = absurd (false≢true none)
    by (Some n) is some = let met = local_met o d n is in (n, met.0, met.1)

-- one further up stands at none of the depths from here on
pub less_above : (o : Option ℕ) (d : ℕ) → 0 < d → IfSome o (λ n. n < d) → IfSome o (λ n. n ≤ d - 1)
less_above None d some less = tt
less_above (Some n) d some less = omega (arith, less, some)

pub less_here : (o : Option ℕ) (d : ℕ) → IfSome o (λ n. n < d) → IfSome o (λ n. n ≤ d)
less_here None d less = tt
less_here (Some n) d less = omega (arith, less)
