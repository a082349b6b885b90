-- The values of a list of fields: one that ends within the least length that the bytes have is there, so that they come
-- out by computing, whatever fields the list has.
use Rattle.acpi_tables.proofs.Common.{◌≡◌, ℕ, ◌+◌, ◌≤◌, Bool, true, false, cond, List, [], ◌∷◌, length, map, find}
use Rattle.acpi_tables.proofs.Common.{option_map, Option, Some, nat_le, refl}
use Rattle.acpi_tables.proofs.Common.{arith, if◌then◌else◌, nat_tests, number_at, Field, value_in}

-- the value of a field of bytes that have at least so many
abbrev value_by : ℕ → List ℕ → Field → Option ℕ
value_by least bytes f = if nat_le (f.offset + f.width) least then Some (number_at bytes f.offset f.width) else value_in bytes f

value_in-by : (least : ℕ) (bytes : List ℕ) (f : Field) → least ≤ length bytes
    → value_in bytes f ≡ value_by least bytes f
value_in-by least bytes f h = grind (arith, nat_tests)

pub values_in-by : (least : ℕ) (bytes : List ℕ) (fields : List Field) → least ≤ length bytes
    → map (value_in bytes) fields ≡ map (value_by least bytes) fields
values_in-by least bytes [] h = refl
values_in-by least bytes (f ∷ fields) h = cc (value_in-by least bytes f h, values_in-by least bytes fields h)

-- the first element whose image passes has the first image that does
pub find-map : {X Y : Type 0} (f : X → Y) (p : Y → Bool) (xs : List X)
    → option_map f (find (λ x. p (f x)) xs) ≡ find p (map f xs)
find-map f p [] = refl
find-map f p (x ∷ xs) =
    elim (p (f x)) as (λ b. option_map f (cond b (Some x) (find (λ y. p (f y)) xs)) ≡ cond b (Some (f x)) (find p (map f xs))) [
      | true ↦ refl
      | false ↦ find-map f p xs
    ]

pub ruleset values = (values_in-by)
