-- The names that most proofs here cite, passed on from one place. Declares nothing.
pub use Rattle.acpi_tables.proofs.Cuts.{WalksTo, walk_start, walk_more, records_of-walk, whole_not_broken}
pub use Rattle.acpi_tables.proofs.Cuts.{BreaksAt-walk}
pub use Rattle.acpi_tables.proofs.Places.{bytes_of-inside}
pub use Rattle.acpi_tables.specs.Bytes.{field_view}
pub use Rattle.acpi_tables.specs.Dumps.{HoldsDump}
pub use Rattle.acpi_tables.specs.Header.{address_bytes, address_count, address_width}
pub use Rattle.acpi_text.specs.Dumps.{record_line, entry_line, field_text}
unfoldable pub use Rattle.acpi_text.specs.Dumps.{dump_lines, spaced_byte, madt_lines, other_text, root_text, header_text, entry_lines, fields_text}
pub use Rattle.std.proofs.Common.{length, ◌-◌, flat_map, [], refl, ap, sym, subst, take, ◌≡◌, drop, length-drop, arith}
pub use Rattle.std.proofs.Common.{map, ◌∙◌, zero-add, true, reverse, ◌<◌}
pub use Rattle.std.proofs.lemmas.Bool.{false≢true}
pub use Rattle.std.proofs.lemmas.List.{flat_map_more, take_all, get_or-reverse, length-reverse, get_or_default}
pub use Rattle.std.proofs.lemmas.List.Folds.{flat_map-map}
pub use Rattle.std.proofs.lemmas.List.FromFn.{map-range_with_len_more}
pub use Rattle.std.specs.List.{range_with_len}
pub use Rattle.std.specs.Prelude.{get_or}
pub use Rattle.text_writer.proofs.PrintLaws.{prints_then, prints_none, prints_turn, prints_end}
pub use Rattle.text_writer.specs.Prints.{Prints, hex2}
unfoldable pub use Rattle.text_writer.specs.Prints.{word}
