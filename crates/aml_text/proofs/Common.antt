-- The names that most proofs here cite, passed on from one place. Declares nothing.
pub use Rattle.acpi_tables.specs.Order.{name_of}
pub use Rattle.acpi_tables.specs.declared.dump.Dump.{Dump}
pub use Rattle.acpi_tables.specs.declared.order.Order.{Order}
pub use Rattle.acpi_text.specs.Dumps.{dumps_text}
pub use Rattle.aml_code.specs.View.{nodes_view}
pub use Rattle.aml_code.specs.declared.tree.Node.{Node}
pub use Rattle.aml_set.specs.Views.{codes_view, trees_view, table_dumps, table_codes, table_terms}
pub use Rattle.aml_set.specs.declared.tables.Table.{Table}
pub use Rattle.aml_names.specs.declared.segments.Seg.{Seg}
pub use Rattle.aml_namespace.specs.Kinds.{Kind}
pub use Rattle.aml_text.specs.Listing.{blocks_of, names_in, a_block, blocks_in, blocks_at, indexes_in, whole_text}
pub use Rattle.asl_text.specs.Bodies.{bodies_lines, block_view}
pub use Rattle.aml_text.specs.Rows.{row_line}
unfoldable pub use Rattle.aml_text.specs.Rows.{namespace_text}
pub use Rattle.asl_text.specs.Texts.{block}
pub use Rattle.asl_text.specs.Texts.{BodyLines, all_levels, levels_of}
pub use Rattle.asl_text.specs.Texts.{left_all, block_text, blocks_text, OneBlock}
unfoldable pub use Rattle.asl_text.specs.Texts.{line}
pub use Rattle.std.proofs.Common.{◌≡◌, ℕ, ◌<◌, List, length, get_or, map, sym, ap, ◌∙◌, arith, None, [], ◌++◌}
pub use Rattle.std.proofs.Common.{ap₂, append_assoc, refl, Option}
pub use Rattle.std.proofs.Common.{◌+◌, ◌∷◌, Some, subst, drop, append-nil, flat_map, is_some}
pub use Rattle.std.proofs.lemmas.List.{length-map, get_or-map, drop_more, at_drop_all}
pub use Rattle.std.proofs.lemmas.List.{flat_map_more}
pub use Rattle.std.proofs.lemmas.Slice.Zip.{length-zip, get_or-zip}
pub use Rattle.std.specs.Option.{option_map, unwrap_or}
pub use Rattle.std.specs.Prelude.{zip, slice_index, decimal, slice_get, min, suc, zero, ◌≤◌}
pub use Rattle.text_writer.proofs.PrintLaws.{prints_then, prints_none, prints_word}
pub use Rattle.text_writer.specs.Prints.{quoted, Prints}
unfoldable pub use Rattle.text_writer.specs.Prints.{word}
pub use denote.Ref.{Bor}
pub use mathlib.Core.Bool.{true≢false}
