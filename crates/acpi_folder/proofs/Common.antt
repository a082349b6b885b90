-- The names that the proofs here cite, passed on from one place. Declares nothing.
pub use Rattle.acpi_folder.specs.Folders.{Answers, AreAddresses, AreGathered, AreRead, FailsAt, FailsAtMap, IsListing}
pub use Rattle.acpi_folder.specs.Folders.{IsMapText, IsWithin, LacksMap, Reads}
pub use Rattle.acpi_folder.specs.Folders.{RefusesFolder, StopsAtFile, StopsBy, dump_bytes, dump_name, is_map, map_name}
pub use Rattle.acpi_folder.specs.Folders.{read_limit}
pub use Rattle.acpi_folder.specs.Map.{Entry, HasFault, HoldsTo, IsLine, IsMapped, RefusesMap, entry_of, is_line_end}
pub use Rattle.acpi_folder.specs.Map.{is_listed, numbered_by, repeats, shown_by}
unfoldable pub use Rattle.acpi_folder.specs.Map.{address_in, lines_of}
pub use Rattle.acpi_folder.specs.declared.map.Line.{Line}
pub use Rattle.acpi_folder.specs.declared.map.MapFault.{MapFault}
pub use Rattle.std.proofs.Common.{Bool, Global, IsPermutation, IsSorted, List, None, Ok, Option, Some, String, Vec, []}
pub use Rattle.std.proofs.Common.{ap, append-nil, append_assoc, arith}
pub use Rattle.std.proofs.Common.{below_more, cond, drop, eqb, false, filter, find, get_or, inl, inr, length}
pub use Rattle.std.proofs.Common.{length-drop, lit<, ltb, map, not, option_map}
pub use Rattle.std.proofs.Common.{refl, rules, string_bytes, string_cmp, subst, suc, sym, take, tests, true, vec_len}
pub use Rattle.std.proofs.Common.{zero, zip, ℕ, ◌*◌, ◌++◌, ◌+◌, ◌-◌, ◌<◌}
pub use Rattle.std.proofs.Common.{◌^◌, ◌∙◌, ◌∷◌, ◌≡◌, ◌≤◌, ◌⊎◌}
pub use Rattle.std.proofs.lemmas.List.{drop_all, drop_at, drop_more, get_or-map, length-map, length-take-le, map-append}
pub use Rattle.std.proofs.lemmas.List.{nil_from_length, take_all, take_more}
pub use Rattle.std.proofs.lemmas.List.Elements.{all_zip_more, filter_from_retain, length_all_zip}
pub use Rattle.std.proofs.lemmas.Option.{MatchOption-at_none, MatchOption-at_some, cond_some}
pub use Rattle.std.specs.Char.{digit_value, encode_utf8}
pub use Rattle.std.specs.List.{after_first, before_first, flat_map, list_any, onto_first, position, position_or_len}
pub use Rattle.std.specs.Str.Parse.{AllDigits, digits_value}
