-- The order of the SSDTs by their names is a total order of the indexes, and a list that is sorted by one has one form.
use Rattle.acpi_tables.proofs.Common.{◌≡◌, ℕ, ◌<◌, ◌≤◌, Bool, List, [], ◌∷◌, length, get_or, refl, arith, is_lt, Dump}
use Rattle.acpi_tables.proofs.Common.{name_of, ending_number, rank_cmp}
use Rattle.std.proofs.lemmas.Cmp.{then_total, on_total, nat_cmp_total}
use Rattle.std.specs.Cmp.{IsTotalOrder, IsStrictWeakOrder}
use Rattle.std.specs.Cmp.Lexicographic.{on_texts}
use Rattle.std.proofs.lemmas.List.MinMax.{ranks_by}

pub rank_total : (dumps : List Dump) → IsTotalOrder (rank_cmp dumps)
rank_total dumps = then_total (on_total (λ index. ending_number (name_of dumps index)) nat_cmp_total) (then_total (on_texts (name_of dumps)) nat_cmp_total)

abbrev pub ranks_below : List Dump → ℕ → ℕ → Bool
ranks_below dumps i j = is_lt (rank_cmp dumps i j)

pub rank_order : (dumps : List Dump) → IsStrictWeakOrder (ranks_below dumps)
rank_order dumps = ranks_by (rank_total dumps) (λ i. i)

-- a list of one number
pub only_one : (xs : List ℕ) → 1 ≤ length xs → length xs < 2 → xs ≡ get_or xs 0 0 ∷ []
only_one [] some few = absurd (omega arith)
only_one (x ∷ []) some few = refl
only_one (x ∷ y ∷ xs) some few = absurd (omega arith)
