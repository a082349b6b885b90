-- Package lengths as they are spelled (ACPI 6.5, 20.2.4); more bytes than needed are allowed, and are kept.
use Rattle.std.specs.Prelude.{ℕ, zero, suc, ◌+◌, ◌*◌, ◌/◌, ◌%◌, ◌^◌, ◌<◌, List, [], ◌∷◌, ◌-◌, length, take, drop}
use Rattle.std.specs.Prelude.{Result, Ok, Err, nat_lt, ◌==◌, if◌then◌else◌}
use Rattle.aml_code.specs.declared.packages.PkgWidth.{PkgWidth}
use Rattle.aml_code.specs.declared.packages.PkgWidth.TheVariants as width
use Rattle.aml_names.specs.declared.faults.CodeFault.{CodeFault}
use Rattle.aml_names.specs.declared.faults.CodeFault.TheVariants as faults
use Rattle.aml_names.specs.NameReading.{◌>>=◌, Left, byte_at}

-- how many bytes follow the lead byte: its two top bits
abbrev pub following_bytes : PkgWidth → ℕ
following_bytes width.One = 0
following_bytes width.Two = 1
following_bytes width.Three = 2
following_bytes width.Four = 3

abbrev pub width_of : ℕ → PkgWidth
width_of zero = width.One
width_of (suc zero) = width.Two
width_of (suc (suc zero)) = width.Three
width_of (suc (suc (suc n))) = width.Four

-- how many bytes spell the length
abbrev pub width_len : PkgWidth → ℕ
width_len w = suc (following_bytes w)

-- n in so many bytes, the lowest first
abbrev pub little : ℕ → ℕ → List ℕ
little zero n = []
little (suc k) n = n % 256 ∷ little k (n / 256)

-- The bytes that spell a value in a width. With no byte after the lead byte, its six low bits are the value; else its
-- four low bits are the lowest of the value.
abbrev pub package_bytes : PkgWidth → ℕ → List ℕ
package_bytes width.One v = v % 64 ∷ []
package_bytes w v = (64 * following_bytes w + v % 16) ∷ little (following_bytes w) (v / 16)

-- the value has room in the width: below 2^6, 2^12, 2^20 or 2^28
abbrev pub FitsWidth : PkgWidth → ℕ → Type 0
FitsWidth width.One v = v < 64
FitsWidth w v = v < 16 * 256 ^ following_bytes w

-- ---- Reading package lengths and numbers forward, with the first fault that is met.

-- a number of so many bytes, the lowest first
unfoldable pub little_at : ℕ → ℕ → List ℕ → Left ℕ
little_at zero end bytes = Ok (0, bytes)
little_at (suc k) end bytes = do
  low ← byte_at end bytes
  high ← little_at k end low.1
  Ok (low.0 + 256 * high.0, high.1)

-- the length that a lead byte begins
unfoldable pub value_at : ℕ → ℕ → ℕ → List ℕ → Left (PkgWidth × ℕ)
value_at at lead end bytes =
    if lead / 64 == 0 then Ok ((width.One, lead), bytes) else
    if nat_lt 0 (lead / 16 % 4) then Err (faults.PkgBits at) else (
    little_at (lead / 64) end bytes >>= λ high.
    Ok ((width_of (lead / 64), lead % 16 + 16 * high.0), high.1))

-- a package length
unfoldable pub length_at : ℕ → List ℕ → Left (PkgWidth × ℕ)
length_at end bytes = do
  lead ← byte_at end bytes
  value_at (end - length bytes) lead.0 end lead.1

-- a package: the width of its length, what it covers, and what is behind it
unfoldable pub span_at : ℕ → List ℕ → Result (PkgWidth × List ℕ × List ℕ) CodeFault
span_at end bytes = do
  l ← length_at end bytes
  if nat_lt l.0.1 (width_len l.0.0) then Err (faults.PkgPast (end - length bytes)) else (
      if nat_lt (length l.1) (l.0.1 - width_len l.0.0) then Err (faults.PkgPast (end - length bytes)) else
      Ok (l.0.0, take (l.0.1 - width_len l.0.0) l.1, drop (l.0.1 - width_len l.0.0) l.1))

-- the package length at the front of the bytes
unfoldable pub front_at : List ℕ → Result (PkgWidth × ℕ) CodeFault
front_at bytes = do
  l ← length_at (length bytes) bytes
  Ok l.0
