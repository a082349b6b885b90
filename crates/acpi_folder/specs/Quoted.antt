-- A file's name as the program prints it.
use Rattle.std.specs.Prelude.{ℕ, ◌/◌, ◌%◌, Bool, true, not, ◌&&◌, List, [], ◌∷◌, ◌++◌, nat_eq, nat_le, codes}
use Rattle.std.specs.Prelude.{if◌then◌else◌}
use Rattle.std.specs.List.{flat_map}
use Rattle.std.specs.Fmt.{digits}

-- a byte that stands for itself: printable ASCII, but no quote and no backslash
abbrev pub is_plain : ℕ → Bool
is_plain byte = nat_le 32 byte && nat_le byte 126 && not (nat_eq byte 34) && not (nat_eq byte 92)

-- `\x` and two hexadecimal digits
abbrev pub escaped : ℕ → List ℕ
escaped byte = codes "\\x" ++ digits 16 true (byte / 16) ++ digits 16 true (byte % 16)

unfoldable pub quoted_byte : ℕ → List ℕ
quoted_byte byte = if is_plain byte then byte ∷ [] else escaped byte

-- the bytes between quotes
abbrev pub quoted : List ℕ → List ℕ
quoted bytes = 34 ∷ flat_map quoted_byte bytes ++ 34 ∷ []
