-- The AML of tables, as bytes.
use Rattle.std.specs.Prelude.{ℕ, List, [], ◌∷◌, get_or, length, ◌<◌, ◌≤◌}

-- numbers that are bytes
abbrev pub IsCode : List ℕ → Type 0
IsCode code = (i : ℕ) → get_or code i 0 < 256

abbrev pub AreCodes : List (List ℕ) → Type 0
AreCodes [] = Unit {0}
AreCodes (c ∷ cs) = IsCode c × AreCodes cs

-- no table is longer than 16,777,216 bytes
abbrev pub AreShort : List (List ℕ) → Type 0
AreShort [] = Unit {0}
AreShort (c ∷ cs) = (length c ≤ 16777216) × AreShort cs
