-- Fields of a table, and the numbers that their bytes spell.
use Rattle.acpi_tables.proofs.Common.{◌≡◌, ℕ, zero, suc, ◌+◌, ◌*◌, ◌<◌, ◌≤◌, List, [], ◌∷◌, length, slice_index, arith}
use Rattle.acpi_tables.proofs.Common.{length-take, length-drop, ◌++◌}
use Rattle.acpi_tables.proofs.Common.{replicate, refl, ap, little_endian, bytes_at, number_at}

pub length-bytes_at : (table : List ℕ) (offset width : ℕ) → offset + width ≤ length table
    → length (bytes_at table offset width) ≡ width
length-bytes_at table offset width h = simp (length-take, length-drop) (omega arith)

pub spells_two : (bytes : List ℕ) → length bytes ≡ 2
    → little_endian bytes ≡ slice_index bytes 0 + slice_index bytes 1 * 256
spells_two (a ∷ b ∷ []) h = omega arith
spells_two _ h = absurd (omega arith)

pub spells_four : (bytes : List ℕ) → length bytes ≡ 4
    → little_endian bytes ≡ slice_index bytes 0 + slice_index bytes 1 * 256 + slice_index bytes 2 * 65536 + slice_index bytes 3 * 16777216
spells_four (a ∷ b ∷ bytes) h = omega (arith, spells_two bytes (omega arith))
spells_four _ h = absurd (omega arith)

pub spells_eight : (bytes : List ℕ) → length bytes ≡ 8
    → little_endian bytes
    ≡ slice_index bytes 0 + slice_index bytes 1 * 256 + slice_index bytes 2 * 65536 + slice_index bytes 3 * 16777216
    + slice_index bytes 4 * 4294967296 + slice_index bytes 5 * 1099511627776 + slice_index bytes 6 * 281474976710656 + slice_index bytes 7 * 72057594037927936
spells_eight (a ∷ b ∷ c ∷ d ∷ bytes) h = omega (arith, spells_four bytes (omega arith))
spells_eight _ h = absurd (omega arith)

pub number_at_one : (table : List ℕ) (offset : ℕ) → offset < length table
    → number_at table offset 1 ≡ slice_index table offset
unfolding number_at
number_at_one (byte ∷ bytes) zero h = omega arith
number_at_one (byte ∷ bytes) (suc offset) h = number_at_one bytes offset (omega arith)
number_at_one [] offset h = absurd (omega arith)

pub ruleset numbers = (number_at_one, spells_two, spells_four, spells_eight, length-bytes_at)

little_endian-zeros : (n : ℕ) → little_endian (replicate n 0) ≡ 0
little_endian-zeros zero = refl
little_endian-zeros (suc n) = omega (arith, little_endian-zeros n)

pub little_endian-padded : (bytes : List ℕ) (n : ℕ) → little_endian (bytes ++ replicate n 0) ≡ little_endian bytes
little_endian-padded [] n = little_endian-zeros n
little_endian-padded (byte ∷ bytes) n = ap (λ number. byte + 256 * number) (little_endian-padded bytes n)
