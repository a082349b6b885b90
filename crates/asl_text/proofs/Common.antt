-- The names that most proofs here cite, passed on from one place. Declares nothing.
pub use Rattle.aml_code.specs.Opcodes.{Row}
pub use Rattle.aml_code.specs.Pieces.{deeper}
pub use Rattle.aml_code.specs.View.{node_view, nodes_view, part_view, parts_view, tail_view, field_view, fields_view}
pub use Rattle.aml_code.specs.View.{link_view}
pub use Rattle.aml_code.specs.declared.packages.PkgWidth.{PkgWidth}
pub use Rattle.aml_code.specs.declared.tree.Field.{Field}
pub use Rattle.aml_code.specs.declared.tree.Link.{Link}
pub use Rattle.aml_code.specs.declared.tree.Node.{Node, Nothing, Named, Op}
pub use Rattle.aml_code.specs.declared.tree.Part.{Part}
pub use Rattle.aml_names.specs.declared.faults.CodeFault.{CodeFault}
pub use Rattle.aml_names.specs.declared.names.Name.{Name}
pub use Rattle.aml_names.specs.declared.segments.Seg.{Seg}
pub use Rattle.asl_text.specs.Bodies.{body_view, kept_lines, printed_lines, bodies_lines}
pub use Rattle.asl_text.specs.Texts.{head_of, inline, tail_text, field_lines, block, lines, op_lines, all_lines}
pub use Rattle.asl_text.specs.Texts.{name_text, joined, is_constant}
pub use Rattle.asl_text.specs.Texts.{inlines, part_text, part_texts, method_head, BodyLines, first_lines, levels_in}
pub use Rattle.asl_text.specs.Texts.{tail_levels, all_levels, behind}
pub use Rattle.asl_text.specs.Texts.{term_lines, terms_lines, method_head_by, raw_text, body_lines}
pub use Rattle.asl_text.specs.Texts.{field_text, link_text}
unfoldable pub use Rattle.asl_text.specs.Texts.{byte_pair, byte_end, braced, indent, line, opening, separated, arguments_text, head_text, method_text}
pub use Rattle.asl_text.specs.declared.bodies.Body.{Body}
pub use Rattle.asl_text.specs.declared.bodies.BodyText.{BodyText}
pub use Rattle.std.proofs.Common.{◌≡◌, ℕ, ◌<◌, List, length, get_or, map, sym, ap, ◌∙◌, arith, ◌-◌, None, [], ◌++◌}
pub use Rattle.std.proofs.Common.{take, append_assoc, refl, Bool, true, false}
pub use Rattle.std.proofs.Common.{cond, ◌+◌, ◌∷◌, Vec, Option, Some, subst, drop, Result, Ok, Err, append-nil, add-one}
pub use Rattle.std.proofs.Common.{flat_map, replicate}
pub use Rattle.std.proofs.Math.Seq.{take-append_seam, drop-cons}
pub use Rattle.std.proofs.lemmas.Grind.{flat_map-append}
pub use Rattle.std.proofs.lemmas.List.{length-append, nil_from_length, drop-drop, take_more, map-append}
pub use Rattle.std.specs.Prelude.{decimal}
pub use Rattle.std.specs.declared.alloc.Global.{Global}
pub use Rattle.text_writer.proofs.PrintLaws.{prints_then, prints_word}
pub use Rattle.text_writer.specs.Prints.{hex2, hex4, hex8, hex16, quoted, Prints}
unfoldable pub use Rattle.text_writer.specs.Prints.{word}
