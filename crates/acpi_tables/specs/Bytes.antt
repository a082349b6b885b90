-- Fields of a table by their offset, and its checksum (ACPI 6.5, section 5.2: all numbers are little-endian;
-- section 5.2.6: checksums).
use Rattle.std.specs.Prelude.{ℕ, ◌+◌, ◌*◌, ◌%◌, ◌≤◌, Bool, List, [], ◌∷◌, length, take, drop, map, sum, nat_eq, nat_le}
use Rattle.std.specs.Prelude.{Option, Some, None, codes, if◌then◌else◌}
use Rattle.std.specs.List.{starts_with}
use Prim.Native.String.{String}
use Rattle.acpi_tables.specs.declared.fields.Base.{Base}
use Rattle.acpi_tables.specs.declared.fields.Base.TheVariants.{Decimal, Hexadecimal}
use Rattle.acpi_tables.specs.declared.fields.TableField.{TableField}

-- the number that these bytes spell, the lowest byte first
abbrev pub little_endian : List ℕ → ℕ
little_endian [] = 0
little_endian (byte ∷ bytes) = byte + 256 * little_endian bytes

-- the field of so many bytes at this offset
abbrev pub bytes_at : List ℕ → ℕ → ℕ → List ℕ
bytes_at table offset width = take width (drop offset table)

-- the number that the field of so many bytes at this offset spells
unfoldable pub number_at : List ℕ → ℕ → ℕ → ℕ
number_at table offset width = little_endian (bytes_at table offset width)

-- the sum of the bytes modulo 256, which is 0 for a table whose checksum is right
abbrev pub checksum : List ℕ → ℕ
checksum bytes = sum bytes % 256

-- whether the bytes begin with this word
unfoldable pub begins_with : List ℕ → List ℕ → Bool
begins_with bytes word = starts_with nat_eq bytes word

-- The u32 at this offset is a length of at least so many bytes, which the bytes have.
pub record HasLength (bytes : List ℕ) (offset least : ℕ) : Type 0 where
  pub header : least ≤ length bytes
  pub covers : least ≤ number_at bytes offset 4
  pub inside : number_at bytes offset 4 ≤ length bytes

-- ---- Fields of a table as data.

-- a field: where it stands, how many bytes it has, how it is called, and the base of the digits that a listing shows
pub record Field : Type 0 where
  pub offset : ℕ
  pub width : ℕ
  pub label : List ℕ
  pub base : Base

-- one that is shown in decimal digits, and one in hexadecimal ones
abbrev pub dec : ℕ → ℕ → String → Field
dec offset width label = record { offset = offset; width = width; label = codes label; base = Decimal }

abbrev pub hex : ℕ → ℕ → String → Field
hex offset width label = record { offset = offset; width = width; label = codes label; base = Hexadecimal }

-- the bytes of a field, in a table that reaches to its end
abbrev pub field_bytes : List ℕ → Field → Option (List ℕ)
field_bytes table f =
    if nat_le (f.offset + f.width) (length table) then Some (bytes_at table f.offset f.width) else None

-- its value
abbrev pub value_in : List ℕ → Field → Option ℕ
value_in table f =
    if nat_le (f.offset + f.width) (length table) then Some (number_at table f.offset f.width) else None

-- the values of fields of bytes that reach to their ends
abbrev pub values_of : List ℕ → List Field → List ℕ
values_of bytes fields = map (λ f. number_at bytes f.offset f.width) fields

-- a field as the code keeps it
abbrev pub field_view : TableField → Field
field_view f = record { offset = f.offset; width = f.width; label = f.label.now; base = f.base }

-- a field of at most eight bytes
abbrev pub IsNarrow : TableField → Type 0
IsNarrow f = f.width ≤ 8
