-- A position takes an opcode of a place where it is one of the takers of the place; and what is said of guards by where
-- their terms stand.
use Rattle.std.proofs.Common.{◌≡◌, ℕ, true, length, ltb, nat_eq, refl, ◌∙◌}
use Rattle.std.specs.Prelude.{slice_index_or}
use Rattle.std.specs.List.{Contains, list_all, position_or_len}
use Rattle.std.proofs.lemmas.Bool.{ltb-true}
use Rattle.std.proofs.lemmas.List.Elements.{All-contains}
use Rattle.std.proofs.lemmas.List.Sums.{AllPass-from_list_all}
use Rattle.aml_code.specs.declared.rows.Place.{Place}
use Rattle.aml_code.specs.declared.rows.Place.TheVariants as places
use Rattle.aml_code.specs.declared.rows.Position.{Position}
use Rattle.aml_code.specs.declared.rows.Position.TheVariants as positions
use Rattle.aml_code.specs.Lawful.{is_guard, terms_in}
use Rattle.aml_code.specs.Opcodes.{takers, takes}

-- ---- a taker takes

all_take : (place : Place) → list_all (λ p. takes p place) (takers place) ≡ true
all_take places.If = refl
all_take _ = refl

pub taker_takes : (p : Position) (place : Place) → Contains (takers place) p → takes p place ≡ true
taker_takes p place h =
    All-contains (λ p. takes p place ≡ true) (takers place) p (AllPass-from_list_all (λ p. takes p place) (takers place) (all_take place)) h

-- ---- what takes is a taker: by computing its place among them

abbrev number_of : Position → ℕ
number_of positions.ModuleTerm = 0
number_of positions.GuardTerm = 1
number_of positions.RunTerm = 2
number_of positions.RunAfterIf = 3
number_of positions.BodyTerm = 4
number_of positions.AfterIf = 5
number_of positions.Argument = 6
number_of positions.Target = 7
number_of positions.Data = 8

abbrev place_of : Position → Place → ℕ
place_of p place = position_or_len (λ q. nat_eq (number_of q) (number_of p)) (takers place)

found : (p : Position) (place : Place)
    → (slice_index_or (takers place) (place_of p place) p ≡ p) × (ltb (place_of p place) (length (takers place)) ≡ takes p place)
found positions.ModuleTerm places.If = (refl, refl)
found positions.GuardTerm places.If = (refl, refl)
found positions.RunTerm places.If = (refl, refl)
found positions.RunAfterIf places.If = (refl, refl)
found positions.BodyTerm places.If = (refl, refl)
found positions.AfterIf places.If = (refl, refl)
found positions.Argument places.If = (refl, refl)
found positions.Target places.If = (refl, refl)
found positions.Data places.If = (refl, refl)
found _ _ = (refl, refl)

pub takes_taker : (p : Position) (place : Place) → takes p place ≡ true → Contains (takers place) p
takes_taker p place h = let f = found p place in (place_of p place, ltb-true _ _ (f.1 ∙ h), f.0)

-- ---- guards

pub guard_inside : (p : Position) (place : Place) → terms_in p place ≡ positions.GuardTerm → is_guard p place ≡ true
guard_inside positions.ModuleTerm places.If h = refl
guard_inside positions.ModuleTerm _ h = absurd cc
guard_inside positions.RunTerm place h = absurd cc
guard_inside positions.RunAfterIf place h = absurd cc
guard_inside _ place h = absurd cc

pub inside_guard : (p : Position) (place : Place) → is_guard p place ≡ true → terms_in p place ≡ positions.GuardTerm
inside_guard positions.ModuleTerm places.If h = refl
inside_guard _ _ h = absurd cc
