-- The names that most proofs here cite, passed on from one place. Declares nothing.
pub use Rattle.acpi_tables.specs.Header.{HoldsTable, table_of}
pub use Rattle.acpi_tables.specs.Order.{IsOrder, AreTables, bytes_of}
pub use Rattle.acpi_tables.specs.declared.dump.Dump.{Dump}
pub use Rattle.acpi_tables.specs.declared.order.Order.{Order}
pub use Rattle.acpidis.specs.Bodies.{ReadsOrRaw, Became, Reading, reading_of, entry_of, ReadsIn, AreReadings, AreBodies}
pub use Rattle.acpidis.specs.Bodies.{has_raw, codes_in}
pub use Rattle.acpidis.specs.Checks.{mark_of, marks_of, IsKept, AreKept, AreKeptOf, IsSame, has_fault, tried_mark}
pub use Rattle.acpidis.specs.Checks.{tried_marks, marks_in, IsUnder, Under, added}
pub use Rattle.acpidis.specs.Checks.{uncounted, tally, tallied, checks_with, check_lines, all_same, first_check}
pub use Rattle.aml_code.specs.Encoded.{same_bytes}
pub use Rattle.acpidis.specs.Checks.{body_same, check_line}
pub use Rattle.acpidis.specs.Meaning.{Meaning, LoadsBy, LoadsSet, HasTables, HasTablesBy, Means, IsSet, IsSetBy, codes_of, Shows}
pub use Rattle.acpidis.specs.Meaning.{order_of}
pub use Rattle.acpidis.specs.declared.checking.Checked.{Checked}
pub use Rattle.acpidis.specs.declared.checking.Mark.{Mark}
pub use Rattle.acpidis.specs.declared.options.Options.{Options}
pub use Rattle.aml_code.specs.Lawful.{ReadsModule}
pub use Rattle.aml_code.specs.Tree.{Trees, no_trees}
pub use Rattle.aml_load.specs.Loading.{methods_of}
pub use Rattle.aml_set.specs.Code.{AreShort}
pub use Rattle.aml_set.specs.Methods.{Method, method_in, methods_in, span_of}
pub use Rattle.aml_set.specs.Views.{codes_view, body_in, methods_of_set, trees_view, body_of, table_codes, table_dumps}
pub use Rattle.aml_set.specs.Views.{table_terms, body_in_set, IsListed}
pub use Rattle.aml_load.specs.Views.{HoldsBy, HoldsLoad, HoldsTables}
pub use Rattle.aml_set.specs.declared.loaded.Loaded.{Loaded}
pub use Rattle.aml_set.specs.declared.tables.Table.{Table}
pub use Rattle.aml_set.specs.declared.tables.TableSet.{TableSet}
pub use Rattle.aml_set.specs.declared.methods.Method.{Method as Kept}
pub use Rattle.aml_names.specs.declared.faults.CodeFault.{CodeFault}
pub use Rattle.aml_namespace.specs.Namespace.{Entry, Givens}
pub use Rattle.asl_text.proofs.LevelLaws.{AgreeAt}
pub use Rattle.asl_text.specs.Bodies.{IsText, body_view, printed_lines, block_view}
pub use Rattle.aml_text.specs.Listing.{blocks_of, names_in, whole_text, listing_text, blocks_at, blocks_in, indexes_in}
pub use Rattle.aml_text.specs.declared.listing.Tables.{Tables}
pub use Rattle.asl_text.specs.Texts.{OneBody, read, raw, all_lines, body_lines, OneBlock, levels_of}
pub use Rattle.asl_text.specs.declared.bodies.Body.{Body}
pub use Rattle.asl_text.specs.declared.bodies.BodyText.{BodyText}
pub use Rattle.std.proofs.Common.{◌≡◌, ℕ, suc, Bool, false, List, [], ◌∷◌, ◌++◌, map, length, Some, Result, Ok, Err}
pub use Rattle.std.proofs.Common.{refl, sym, ap, ap₂, subst, arith, IfSome}
pub use Rattle.std.proofs.Common.{slice_get, map-id, get_or, ◌&&◌, zero, ◌+◌, ◌<◌, ◌≤◌, nat_eq, true, cond, drop, set}
pub use Rattle.std.proofs.Common.{inl, inr, ◌∙◌, filter, length-drop, take}
pub use Rattle.std.proofs.Common.{rules, zip, flat_map, true≢false, ◌-◌}
pub use Rattle.std.proofs.lemmas.List.{at_drop_all, drop_more, get_or_default, set_past, length-map, length-append}
pub use Rattle.std.proofs.lemmas.List.{take-append-drop, map_more, take_all}
pub use Rattle.std.proofs.lemmas.List.{get_or_read, length-take-le, length_push, take_more, map_push}
pub use Rattle.std.proofs.lemmas.List.Elements.{All-get_or, All-map, All-set, All-weaker, All-filter, All-nil, All-cons}
pub use Rattle.std.proofs.lemmas.List.Sums.{sum_by-cons, AllPass-from_list_all, list_all-from_AllPass}
pub use Rattle.std.proofs.lemmas.Result.{IfOk-weaker, err_from_is_err_and}
pub use Rattle.std.specs.List.{All, AllZip, list_all}
pub use Rattle.text_writer.proofs.PrintLaws.{prints_none, prints_turn, prints_end, writes_listing, prints_same}
pub use denote.Param.Send.{IsSync, sendable, recorded_sync, shr_sync, struct_sync, param_sync, arg_sync}
