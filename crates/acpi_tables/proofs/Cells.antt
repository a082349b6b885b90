-- The addresses that an XSDT or an RSDT lists.
use Rattle.acpi_tables.proofs.Common.{◌≡◌, ℕ, ◌-◌, ◌%◌, ◌≤◌, ◌<◌, List, length, Some, None, refl, rules, tests, arith}
use Rattle.acpi_tables.proofs.Common.{Bool, true, false, ◌&&◌, nat_le, nat_eq, zero-add, slice_get, if◌then◌else◌}
use Rattle.acpi_tables.proofs.Common.{nat_tests, slice_get-get_or, slice_get_past, get_or-map-range_with_len}
use Rattle.acpi_tables.proofs.Common.{length-map-range_with_len, HoldsAddresses, addresses_of, address_at, address_in}
use Rattle.acpi_tables.proofs.Common.{address_count}

module _ (width : ℕ) (table : List ℕ) (index : ℕ) where
  pub address_in-inside : HoldsAddresses width table → index < address_count width table
      → address_in width table index ≡ Some (address_at width table index)
  address_in-inside holds inside =
      let long = length-map-range_with_len (address_at width table) 0 (address_count width table) in
      let there = get_or-map-range_with_len (address_at width table) 0 (address_count width table) index index 0 inside (zero-add index) in
      let e = slice_get-get_or (addresses_of width table) index 0 (omega (arith, long, inside)) in
      let front = holds.header in
      let whole = holds.whole in
      grind (arith, nat_tests)

  pub address_in-refused : ¬ HoldsAddresses width table → address_in width table index ≡ None
  address_in-refused refused = by_tests _ _ refl refl
    where
      by_tests : (long whole : Bool) → long ≡ nat_le 36 (length table) → whole ≡ nat_eq ((length table - 36) % width) 0
          → (if long && whole then slice_get (addresses_of width table) index else None) ≡ None
      by_tests true true e f = absurd (refused (record { header = search (rules, tests); whole = search (rules, tests) }))
      by_tests true false e f = refl
      by_tests false whole e f = refl

  pub address_in-past : address_count width table ≤ index → address_in width table index ≡ None
  address_in-past past =
      let long = length-map-range_with_len (address_at width table) 0 (address_count width table) in
      let e = slice_get_past (addresses_of width table) index (omega (arith, long, past)) in
      grind (arith, nat_tests)

pub ruleset cells = (address_in-inside, address_in-refused, address_in-past)
