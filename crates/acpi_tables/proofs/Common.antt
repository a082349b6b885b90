-- The names that the proofs here cite, passed on from one place. Declares nothing.
pub use Rattle.acpi_tables.specs.Bytes.{Field, little_endian}
unfoldable pub use Rattle.acpi_tables.specs.Bytes.{begins_with, bytes_at, number_at, value_in}
pub use Rattle.acpi_tables.specs.Fadt.{fadt_fields}
pub use Rattle.acpi_tables.specs.Header.{HoldsAddresses, HoldsRoot, HoldsTable, address_at, address_count, address_in}
pub use Rattle.acpi_tables.specs.Header.{address_width, rsdp_of, table_of}
unfoldable pub use Rattle.acpi_tables.specs.Header.{addresses_of}
pub use Rattle.acpi_tables.specs.Order.{AreTables, AreTaken, IsChained, IsNamed, RefusesOrder, chain_of, dsdt_address}
pub use Rattle.acpi_tables.specs.Order.{has_signature, only_dsdt, ◌>>=◌}
pub use Rattle.acpi_tables.specs.Order.{list_of, listed_by, rank_cmp, signed_at, with_more}
unfoldable pub use Rattle.acpi_tables.specs.Order.{bytes_of, dump_at, ending_number, indexes_with, name_of}
pub use Rattle.acpi_tables.specs.declared.dump.Dump.{Dump}
pub use Rattle.std.proofs.Common.{Bool, Bor, IsPermutation, List, MatchBool, None, Option, Some, [], ap, append-nil}
pub use Rattle.std.proofs.Common.{append_assoc, arith, below_more, codes}
pub use Rattle.std.proofs.Common.{cond, drop, false, filter, filter_map, find, get_or, inl, inr, length, length-append}
pub use Rattle.std.proofs.Common.{length-drop, length-take, ltb, map}
pub use Rattle.std.proofs.Common.{nat_eq, nat_le, option_map, refl, replicate, reverse, rules, slice_index}
pub use Rattle.std.proofs.Common.{string_bytes, subst, suc, sum, sym, take}
pub use Rattle.std.proofs.Common.{take_while, tests, true, zero, zero-add, ℕ, ◌%◌, ◌&&◌, ◌*◌, ◌++◌, ◌+◌, ◌-◌, ◌/◌, ◌<◌}
pub use Rattle.std.proofs.Common.{◌^◌, ◌∙◌, ◌∷◌, ◌≡◌, ◌≤◌, ◌⊎◌}
pub use Rattle.std.proofs.lemmas.Bool.{eqb-true, false≢true, ltb-false, true≢false}
pub use Rattle.std.proofs.lemmas.Bool.Decides.{Decides-eqb, nat_tests}
pub use Rattle.std.proofs.lemmas.List.{drop-replicate, get_or-map, get_or_past, length-map, length-replicate}
pub use Rattle.std.proofs.lemmas.List.{length-reverse, map-append, reverse-append}
pub use Rattle.std.proofs.lemmas.List.{drop_min, length-set, map_more, map_push, take_all, take_min, take_more}
pub use Rattle.std.proofs.lemmas.List.{take_more_set}
pub use Rattle.std.proofs.lemmas.List.Elements.{All-filter, All-head, All-tail, filter_map-append, filter_passes}
pub use Rattle.std.proofs.lemmas.List.FromFn.{get_or-map-range_with_len, length-map-range_with_len}
pub use Rattle.std.proofs.lemmas.List.FromFn.{map-range_with_len_more}
pub use Rattle.std.proofs.lemmas.List.Sums.{fold-append, length-filter, passes_at_first, sum_by-cons, take_while-cons}
pub use Rattle.std.proofs.lemmas.Option.{cond_some, get_or_from_slice_get, option_and_then_some, same_Some}
pub use Rattle.std.proofs.lemmas.Option.{slice_get-get_or, slice_get_past, slice_get_within}
pub use Rattle.std.specs.List.{All, before_last, concat, cons_option, count_by, fold, list_any, position}
pub use Rattle.std.specs.List.{position_or_len, range_with_len}
pub use Rattle.std.specs.Ordering.{is_lt, nat_cmp, ordering_reverse, ordering_then}
pub use Rattle.std.specs.Bool.{then_some}
pub use Rattle.std.specs.Prelude.{Ok, if◌then◌else◌, slice_get}
pub use Rattle.std.specs.Str.Parse.{digits_value}
