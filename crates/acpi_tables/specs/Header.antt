-- The System Description Table Header (ACPI 6.5, section 5.2.6, table 5.4).
use Rattle.std.specs.Prelude.{ℕ, List, take, ◌≡◌, ◌+◌, ◌-◌, ◌*◌, ◌/◌, ◌%◌, ◌≤◌, ◌&&◌, map, length, nat_eq, nat_le}
use Rattle.std.specs.Prelude.{slice_get, Option, None, if◌then◌else◌, ◌||◌, not, Bool, true, codes}
use Rattle.std.specs.Bool.{then_some}
use Rattle.acpi_tables.specs.Bytes.{bytes_at, number_at, HasLength, checksum, begins_with}
use Rattle.acpi_tables.specs.declared.addresses.AddressWidth.{AddressWidth}
use Rattle.acpi_tables.specs.declared.addresses.AddressWidth.TheVariants.{Four, Eight}
use Rattle.acpi_tables.specs.declared.header.Header.{Header}
use Rattle.std.specs.List.{range_with_len}
use Rattle.acpi_tables.specs.declared.rsdp.Rsdp.{Rsdp}

-- a table with its header: Length, at 4, covers the 36 bytes of the header and lies within the bytes
abbrev pub HoldsTable : List ℕ → Type 0
HoldsTable bytes = HasLength bytes 4 36

-- the fields of the header
abbrev pub header_of : List ℕ → Header
header_of bytes = record {
  signature = bytes_at bytes 0 4;
  length = number_at bytes 4 4;
  revision = number_at bytes 8 1;
  checksum = number_at bytes 9 1;
  oem_id = bytes_at bytes 10 6;
  oem_table_id = bytes_at bytes 16 8;
  oem_revision = number_at bytes 24 4;
  creator_id = bytes_at bytes 28 4;
  creator_revision = number_at bytes 32 4;
}

-- the table: the first Length bytes
abbrev pub table_of : List ℕ → List ℕ
table_of bytes = take (number_at bytes 4 4) bytes

-- ---- The tables that list the addresses of the others: the Root System Description Table (ACPI 6.5, section 5.2.7),
-- where an address has four bytes, and the Extended one (section 5.2.8), where it has eight. Both are the header, and
-- then addresses of this width up to the table's end.

abbrev pub address_width : AddressWidth → ℕ
address_width Four = 4
address_width Eight = 8

-- what follows the 36 bytes of the header is cut into addresses
pub record HoldsAddresses (width : ℕ) (table : List ℕ) : Type 0 where
  pub header : 36 ≤ length table
  pub whole : (length table - 36) % width ≡ 0

abbrev pub address_count : ℕ → List ℕ → ℕ
address_count width table = (length table - 36) / width

-- the address at this index, and its bytes
abbrev pub address_at : ℕ → List ℕ → ℕ → ℕ
address_at width table index = number_at table (36 + index * width) width

abbrev pub address_bytes : ℕ → List ℕ → ℕ → List ℕ
address_bytes width table index = bytes_at table (36 + index * width) width

-- the addresses
abbrev pub addresses_of : ℕ → List ℕ → List ℕ
addresses_of width table =
    map (λ index. number_at table (36 + index * width) width) (range_with_len 0 ((length table - 36) / width))

-- the member of the addresses at this index, in a table that holds them
abbrev pub address_in : ℕ → List ℕ → ℕ → Option ℕ
address_in width table index =
    if nat_le 36 (length table) && nat_eq ((length table - 36) % width) 0
    then slice_get (addresses_of width table) index else None

-- ---- The Root System Description Pointer (ACPI 6.5, section 5.2.5.3, table 5.3).

-- the revision of an RSDP
abbrev pub revision_of : List ℕ → ℕ
revision_of bytes = number_at bytes 15 1

-- an RSDP: 20 bytes with the signature, and from revision 2 on 36 bytes that Length, at 20, covers
pub record HoldsRoot (bytes : List ℕ) : Type 0 where
  pub signature : begins_with bytes (codes "RSD PTR ") ≡ true
  pub front : 20 ≤ length bytes
  pub extended : 2 ≤ revision_of bytes → HasLength bytes 20 36

-- the fields of an RSDP, with those that revision 2 added
abbrev pub rsdp_of : List ℕ → Rsdp
rsdp_of bytes = record {
  oem = bytes_at bytes 9 6;
  revision = revision_of bytes;
  rsdt = number_at bytes 16 4;
  wide = then_some (nat_le 2 (revision_of bytes))
      (record { length = number_at bytes 20 4; xsdt = number_at bytes 24 8 });
}

-- whether its checksums are right: that of the first 20 bytes, and from revision 2 on that of the first Length bytes
abbrev pub root_sums : List ℕ → Bool
root_sums bytes = nat_eq (checksum (take 20 bytes)) 0
    && (not (nat_le 2 (revision_of bytes)) || nat_eq (checksum (take (number_at bytes 20 4) bytes)) 0)
