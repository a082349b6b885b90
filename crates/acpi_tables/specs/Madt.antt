-- The Multiple APIC Description Table (ACPI 6.5, section 5.2.12, tables 5.19 to 5.21): two fields, and then records up
-- to its end. `madt_rows` lists the kinds of records whose fields are shown (sections 5.2.12.2, 5.2.12.3, 5.2.12.5 to
-- 5.2.12.8, 5.2.12.12 and 5.2.12.13).
use Prim.Native.String.{String}
use Rattle.std.specs.Prelude.{◌≡◌, ℕ, zero, suc, ◌+◌, ◌<◌, ◌≤◌, ◌&&◌, Bool, List, [], ◌∷◌, codes, length}
use Rattle.std.specs.Prelude.{take, drop, map, find, nat_eq, nat_le, Option, Some, None, if◌then◌else◌}
use Rattle.std.specs.List.{All, AllByRecursion, concat}
use Rattle.acpi_tables.specs.Bytes.{bytes_at, number_at, Field, dec, hex, field_view, values_of, IsNarrow}
use Rattle.acpi_tables.specs.declared.faults.Bad.{Bad}
use Rattle.acpi_tables.specs.declared.faults.Bad.TheVariants.{Short, MadtRecord as BadRecord}
use Rattle.acpi_tables.specs.declared.fields.RecordRow.{RecordRow}
use Rattle.acpi_tables.specs.declared.fields.TheConstants.{MOST_FIELDS}
use Rattle.acpi_tables.specs.declared.madt.MadtRecord.{MadtRecord}
use Rattle.acpi_tables.specs.declared.madt.MadtRecord.TheVariants as records

-- a kind: its type, its length in bytes, how it is called, and its fields
pub record Row : Type 0 where
  pub kind : ℕ
  pub long : ℕ
  pub name : List ℕ
  pub fields : List Field

abbrev pub row : ℕ → ℕ → String → List Field → Row
row kind long name fields = record { kind = kind; long = long; name = codes name; fields = fields }

-- the kinds; the field of AddressOverride has no label
abbrev pub madt_rows : List Row
madt_rows =
    row 0 8 "LocalApic" (dec 2 1 "Uid" ∷ dec 3 1 "Apic" ∷ hex 4 4 "Flags" ∷ []) ∷
    row 1 12 "IoApic" (dec 2 1 "Id" ∷ hex 4 4 "Address" ∷ dec 8 4 "Gsi" ∷ []) ∷
    row 2 10 "Override" (dec 2 1 "Bus" ∷ dec 3 1 "Source" ∷ dec 4 4 "Gsi" ∷ hex 8 2 "Flags" ∷ []) ∷
    row 3 8 "NmiSource" (hex 2 2 "Flags" ∷ dec 4 4 "Gsi" ∷ []) ∷
    row 4 6 "LocalNmi" (dec 2 1 "Uid" ∷ hex 3 2 "Flags" ∷ dec 5 1 "Lint" ∷ []) ∷
    row 5 12 "AddressOverride" (hex 4 8 "" ∷ []) ∷
    row 9 16 "X2Apic" (dec 4 4 "Id" ∷ hex 8 4 "Flags" ∷ dec 12 4 "Uid" ∷ []) ∷
    row 10 12 "X2Nmi" (hex 2 2 "Flags" ∷ dec 4 4 "Uid" ∷ dec 8 1 "Lint" ∷ []) ∷
    []

-- a record's first byte is its type
abbrev pub kind_of : List ℕ → ℕ
kind_of bytes = number_at bytes 0 1

-- the kind that has a record's type and length
unfoldable pub row_of : List ℕ → Option Row
row_of bytes = find (λ r. nat_eq (kind_of bytes) r.kind && nat_eq (length bytes) r.long) madt_rows

-- a kind as the code keeps it
abbrev pub row_view : RecordRow → Row
row_view r = record { kind = r.kind; long = r.length; name = r.name.now; fields = map field_view r.fields.now }

-- a kind of no more fields than a record has room for, each of at most eight bytes
abbrev pub IsSmall : RecordRow → Type 0
IsSmall r = (length r.fields.now ≤ MOST_FIELDS) × All IsNarrow r.fields.now

-- What a record says: the name of its kind and the values of the fields, in their order, or for a record of no kind its
-- type and the bytes behind its length.
pub data Said : Type 0 where
  Known : List ℕ → List ℕ → Said
  Unknown : ℕ → List ℕ → Said

abbrev pub said_by : Option Row → List ℕ → Said
said_by (Some r) bytes = Known r.name (values_of bytes r.fields)
said_by None bytes = Unknown (kind_of bytes) (drop 2 bytes)

abbrev pub meaning_of : List ℕ → Said
meaning_of bytes = said_by (row_of bytes) bytes

-- what a record in memory says, whose raw content is seen by a function
abbrev pub said : {C : Type 0} → (C → List ℕ) → MadtRecord C → Said
said see (records.Known row values) = Known row.now.name.now (take (length row.now.fields.now) values)
said see (records.Other kind content) = Unknown kind (see content)

-- a table whose bytes from 44 on are records, one behind the other: the second byte of each says how many bytes it has,
-- at least two
pub record HoldsMadt (table : List ℕ) : Type 0 where
  pub header : 44 ≤ length table
  pub records : List (List ℕ)
  pub cut : concat records ≡ drop 44 table
  pub each : AllByRecursion (λ r. (2 ≤ length r) × (number_at r 1 1 ≡ length r)) records

-- ---- The records, one after the other: in a table that is taken the same (`records_are`, proved).

-- the bytes of the record at this offset, by its second byte, and the offset behind it
abbrev pub record_bytes_at : List ℕ → ℕ → List ℕ
record_bytes_at table at = bytes_at table at (number_at table (at + 1) 1)

abbrev pub record_end : List ℕ → ℕ → ℕ
record_end table at = at + number_at table (at + 1) 1

-- a whole record stands there: its length counts at least its first two bytes, and it lies within the table
pub record HoldsRecord (table : List ℕ) (at : ℕ) : Type 0 where
  pub behind_fields : 44 ≤ at
  pub covers : 2 ≤ number_at table (at + 1) 1
  pub inside : record_end table at ≤ length table

abbrev pub is_whole : List ℕ → ℕ → Bool
is_whole table at = nat_le 2 (number_at table (at + 1) 1) && nat_le (record_end table at) (length table)

-- The records from an offset on, one behind the other, as many as are whole. The number bounds the steps, and the count
-- of the table's bytes is always enough.
unfoldable pub records_from : ℕ → List ℕ → ℕ → List (List ℕ)
records_from zero table at = []
records_from (suc n) table at =
    if is_whole table at then record_bytes_at table at ∷ records_from n table (record_end table at) else []

-- the records of a MADT
abbrev pub records_of : List ℕ → List (List ℕ)
records_of table = records_from (length table) table 44

-- whole records stand up to this offset, and a broken one begins there
pub record BreaksAt (table : List ℕ) (at : ℕ) : Type 0 where
  pub before : 44 + length (concat (records_of table)) ≡ at
  pub inside : at < length table
  pub broken : ¬ HoldsRecord table at

-- what the refusal of a table says of it
abbrev pub RefusesMadt : List ℕ → Bad → Type 0
RefusesMadt table Short = length table < 44
RefusesMadt table (BadRecord at) = BreaksAt table at
RefusesMadt table _ = ⊥
