-- Dumps of tables, one at a time: which of them are taken.
use Rattle.std.specs.Prelude.{◌≡◌, ℕ, ◌<◌, ◌≤◌, ◌⊎◌, ◌||◌, ⊤, Bool, true, false, List, codes, length, nat_eq}
use Rattle.std.specs.Prelude.{if◌then◌else◌}
use Rattle.acpi_tables.specs.Bytes.{begins_with, checksum, HasLength}
use Rattle.acpi_tables.specs.Header.{table_of, HoldsRoot, root_sums, HoldsAddresses}
use Rattle.acpi_tables.specs.Madt.{HoldsMadt, RefusesMadt}
use Rattle.acpi_tables.specs.declared.dump.Content.{Content}
use Rattle.acpi_tables.specs.declared.dump.Content.TheVariants.{Xsdt, Rsdt, Fadt, Madt, Other}
use Rattle.acpi_tables.specs.declared.dump.Kind.{Kind}
use Rattle.acpi_tables.specs.declared.dump.Kind.TheVariants.{Root, Facs, Standard}
use Rattle.acpi_tables.specs.declared.faults.Bad.{Bad}
use Rattle.acpi_tables.specs.declared.faults.Bad.TheVariants.{TooLarge, Short, BadSum, BadRoot, FadtShort}

-- A dump that is taken, of at most 16 MiB, by its signature: an RSDP; a FACS (ACPI 6.5, section 5.2.10), which has no
-- standard header and no checksum; or a table with the header. Of an XSDT, an RSDT and a MADT what stands behind the
-- header is whole; a FADT has the 116 bytes up to the end of Flags. `any_sum` takes any checksum.
pub record HoldsDump (any_sum : Bool) (bytes : List ℕ) : Type 0 where
  pub small : length bytes ≤ 16777216
  pub root : begins_with bytes (codes "RSD PTR ") ≡ true → HoldsRoot bytes × (any_sum ≡ false → root_sums bytes ≡ true)
  pub facs : begins_with bytes (codes "FACS") ≡ true → HasLength bytes 4 8
  pub table : (begins_with bytes (codes "RSD PTR ") || begins_with bytes (codes "FACS")) ≡ false
      → HasLength bytes 4 36 × (any_sum ≡ false → checksum (table_of bytes) ≡ 0)
  pub xsdt : begins_with bytes (codes "XSDT") ≡ true → HoldsAddresses 8 (table_of bytes)
  pub rsdt : begins_with bytes (codes "RSDT") ≡ true → HoldsAddresses 4 (table_of bytes)
  pub fadt : begins_with bytes (codes "FACP") ≡ true → 116 ≤ length (table_of bytes)
  pub madt : begins_with bytes (codes "APIC") ≡ true → HoldsMadt (table_of bytes)

-- ---- A dump as the code takes it, by the kind that its signature tells: the same (`taken` and `by_kind`, proved).

-- What is read of a table behind its standard header, by its signature.
abbrev pub content_of : List ℕ → Content
content_of bytes =
    if begins_with bytes (codes "XSDT") then Xsdt else
    (if begins_with bytes (codes "RSDT") then Rsdt else
    (if begins_with bytes (codes "FACP") then Fadt else
    (if begins_with bytes (codes "APIC") then Madt else Other)))

-- How a dump is read: the RSDP (section 5.2.5) and the FACS (section 5.2.10) have no standard header.
abbrev pub kind_of : List ℕ → Kind
kind_of bytes =
    if begins_with bytes (codes "RSD PTR ") then Root else
    (if begins_with bytes (codes "FACS") then Facs else Standard (content_of bytes))

-- The fields that say how long it is are there and agree with the bytes.
abbrev pub HoldsShape : Kind → List ℕ → Type 0
HoldsShape Root bytes = HoldsRoot bytes
HoldsShape Facs bytes = HasLength bytes 4 8
HoldsShape (Standard content) bytes = HasLength bytes 4 36

-- whether its checksums are right (the FACS has none)
abbrev pub sums_hold : Kind → List ℕ → Bool
sums_hold Root bytes = root_sums bytes
sums_hold Facs bytes = true
sums_hold (Standard content) bytes = nat_eq (checksum (table_of bytes)) 0

-- What is read of it can be read: of a FADT the fields up to Flags, which are those of ACPI 1.0.
abbrev pub HoldsContent : Kind → List ℕ → Type 0
HoldsContent (Standard Xsdt) bytes = HoldsAddresses 8 (table_of bytes)
HoldsContent (Standard Rsdt) bytes = HoldsAddresses 4 (table_of bytes)
HoldsContent (Standard Fadt) bytes = 116 ≤ length (table_of bytes)
HoldsContent (Standard Madt) bytes = HoldsMadt (table_of bytes)
HoldsContent _ bytes = ⊤

-- ---- Why a dump is refused.

-- the greatest number of bytes of a dump
abbrev pub most_bytes : ℕ
most_bytes = 16777216

-- What is wrong with a dump whose shape doesn't hold.
abbrev pub shape_fault : Kind → Bad
shape_fault Root = BadRoot
shape_fault _ = Short

-- What is wrong with one of which something can't be read.
abbrev pub RefusesContent : Kind → List ℕ → Bad → Type 0
RefusesContent (Standard Xsdt) bytes bad = (bad ≡ BadRoot) × (¬ HoldsAddresses 8 (table_of bytes))
RefusesContent (Standard Rsdt) bytes bad = (bad ≡ BadRoot) × (¬ HoldsAddresses 4 (table_of bytes))
RefusesContent (Standard Fadt) bytes bad = (bad ≡ FadtShort) × (length (table_of bytes) < 116)
RefusesContent (Standard Madt) bytes bad = RefusesMadt (table_of bytes) bad
RefusesContent _ bytes bad = ⊥

-- Why a dump is refused: by the first of these that stands, its size, its shape, its checksums, and its content.
abbrev pub RefusesBy : Kind → Bool → List ℕ → Bad → Type 0
RefusesBy kind any_sum bytes bad =
    ((bad ≡ shape_fault kind) × (¬ HoldsShape kind bytes))
    ⊎ (((bad ≡ BadSum) × HoldsShape kind bytes × (any_sum ≡ false) × (sums_hold kind bytes ≡ false))
    ⊎ (HoldsShape kind bytes × (any_sum ≡ false → sums_hold kind bytes ≡ true) × RefusesContent kind bytes bad))

abbrev pub RefusesDump : Bool → List ℕ → Bad → Type 0
RefusesDump any_sum bytes bad =
    ((bad ≡ TooLarge) × (most_bytes < length bytes))
    ⊎ ((length bytes ≤ most_bytes) × RefusesBy (kind_of bytes) any_sum bytes bad)
