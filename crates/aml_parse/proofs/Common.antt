-- The names that most proofs here cite, passed on from one place. Declares nothing.
pub use Rattle.aml_code.proofs.Answered.{read_on, given_ok, given_err}
pub use Rattle.aml_code.proofs.InnerLaws.{is_inner, unchanged, all_unchanged}
pub use Rattle.aml_code.proofs.LengthLaws.{span_again, front_length, length-package_bytes, IsSpan, little_takes}
pub use Rattle.aml_code.proofs.LengthLaws.{little_fault, length_takes, length_fault, span_takes}
pub use Rattle.aml_code.proofs.LengthLaws.{span_fault, little_again, length_again}
pub use Rattle.aml_code.proofs.LevelLaws.{deeper_by, terms_deeper_by}
pub use Rattle.aml_code.proofs.RowFacts.{zero_bare, lead_of, opcode_lead, row_lead_is, row_opcode, row_is_opcode}
pub use Rattle.aml_code.proofs.RowFacts.{row_apart, target_opcode, is_if_place}
pub use Rattle.aml_code.proofs.RowFacts.{if_parts, if_has_length, guard_place, opcode_some, is_body, not_true, rows_say}
pub use Rattle.aml_code.proofs.Takers.{taker_takes, takes_taker, guard_inside, inside_guard}
pub use Rattle.aml_code.proofs.Within.{Within, onward, text_there, byte_there, end_there, truncated_placed, offset_is}
pub use Rattle.aml_code.proofs.Within.{length_placed, past_placed, name_placed}
pub use Rattle.aml_code.proofs.Within.{inward, slice_there, span_inside, whole}
pub use Rattle.aml_code.specs.Faults.{Arities, StandsAt, IsOpcode, StandsThere, IsEnd}
pub use Rattle.aml_code.specs.Lawful.{tail_in}
pub use Rattle.aml_code.specs.Lawful.{HasWidth, terms_in, has_opcode, Setting, IsLawful, AreParts, IsTail}
pub use Rattle.aml_code.specs.Lawful.{next_position, after, after_all, AreTerms}
pub use Rattle.aml_code.specs.Lawful.{setting_of, names_declared, with_declared, declared_by, after_tail, is_guard}
pub use Rattle.aml_code.specs.Lawful.{IsPart, IsField, AreFields, BodyStands}
pub use Rattle.aml_code.specs.Lawful.{BodiesStand, TailStands, count_in, ReadsBody, ReadsModule, ReadsStep}
pub use Rattle.aml_code.specs.Lawful.{no_arguments, unit_names, with_names}
pub use Rattle.aml_code.specs.Laws.{IsTermAt, AreTermsAt, NoProperPrefix, SameByBytes, AllSameByBytes}
pub use Rattle.aml_code.specs.Opcodes.{row_of, has_length, Row, takes, row_view}
unfoldable pub use Rattle.aml_code.specs.Opcodes.{rows}
pub use Rattle.aml_code.specs.Packages.{width_len, package_bytes, FitsWidth, little, little_at, length_at, span_at}
pub use Rattle.aml_code.specs.Tree.{Tree, nothing, named, op, child, Parts, no_parts, part_more, Tail, empty}
pub use Rattle.aml_code.specs.Tree.{opcode_bytes, packed, encoding, encodings}
pub use Rattle.aml_code.specs.Tree.{parts_encoding, tail_encoding, Trees, no_trees, tree_more, Fields, no_fields}
pub use Rattle.aml_code.specs.Tree.{field_more, Part, label, byte, word, dword}
pub use Rattle.aml_code.specs.Tree.{qword, text, tree_count, terms, elements, fields, body, Field, unit, reserved}
pub use Rattle.aml_code.specs.Tree.{access, connection, extended, Link, target}
pub use Rattle.aml_code.specs.Tree.{buffer, slice_of, part_encoding, field_encoding, fields_encoding, link_encoding}
pub use Rattle.aml_code.specs.View.{node_view, nodes_view, part_view, parts_view, field_view, fields_view}
pub use Rattle.aml_code.specs.declared.packages.PkgWidth.{PkgWidth}
pub use Rattle.aml_code.specs.declared.rows.PartKind.{PartKind}
pub use Rattle.aml_code.specs.declared.rows.Place.{Place}
pub use Rattle.aml_code.specs.declared.rows.Position.{Position}
pub use Rattle.aml_code.specs.declared.rows.Role.{Role}
pub use Rattle.aml_code.specs.declared.rows.TailKind.{TailKind}
pub use Rattle.aml_names.proofs.NameFaults.{segment_fault}
pub use Rattle.aml_names.proofs.NameLaws.{name_lead, name_again, segment_takes, name_takes, name_fault, lead_reads}
pub use Rattle.aml_names.proofs.NameLaws.{segment_again}
pub use Rattle.aml_names.proofs.StepLaws.{err_is, ok_is, IsBytes, IsBytes-drop, IsBytes-take, Takes, Takes-then}
pub use Rattle.aml_names.proofs.StepLaws.{byte_takes, byte_fault, Takes-none}
pub use Rattle.aml_names.specs.NameReading.{is_bare, ◌>>=◌, Fails, name_at, segment_at, has_segment, byte_at, Left}
pub use Rattle.aml_names.specs.Names.{IsName, spelling, is_name_lead, is_lead_char, IsNameSeg}
pub use Rattle.aml_names.specs.Paths.{PathSet}
pub use Rattle.aml_names.specs.declared.faults.CodeFault.{CodeFault}
pub use Rattle.aml_names.specs.declared.names.Name.{Name}
pub use Rattle.aml_names.specs.declared.segments.Seg.{Seg}
pub use Rattle.std.proofs.Common.{◌≡◌, ℕ, zero, suc, Bool, true, false, eqb, List, [], ◌∷◌, ◌++◌, length, Option, Some}
pub use Rattle.std.proofs.Common.{None, Ok, Err, refl, sym, ap, subst}
pub use Rattle.std.proofs.Common.{◌∙◌, append_assoc, ◌⊎◌, arith, inl, inr, ◌-◌, ◌<◌, Result, ◌+◌, ◌≤◌, cond, ◌==◌, drop}
pub use Rattle.std.proofs.Common.{rules, ◌/◌, ◌%◌, ◌^◌, ltb, get_or}
pub use Rattle.std.proofs.Common.{take, ◌≢◌, not, ◌*◌, add-one}
pub use Rattle.std.proofs.Math.Seq.{drop-cons}
pub use Rattle.std.proofs.lemmas.Bool.{eqb-true, eq-eqb, ne_eqb, eqb-false, ltb-true, ltb-false, lt-ltb, le-ltb}
pub use Rattle.std.proofs.lemmas.List.{nil_from_length, get_or_default, append-nil, length-append, length-take}
pub use Rattle.std.proofs.lemmas.List.{length-drop, take-append-drop, drop_all}
pub use Rattle.std.proofs.lemmas.List.{take_at, drop_at}
pub use Rattle.std.proofs.lemmas.List.Quantifiers.{position-Some}
pub use Rattle.std.specs.List.{position_or_len}
pub use Rattle.std.specs.Prelude.{ok_or, position, All, option_map}
