use Rattle.std.proofs.Common.{◌≡◌, ◌++◌, drop}
use Rattle.aml_code.specs.View.{nodes_view, parts_view, fields_view}
use Rattle.aml_code.specs.Tree.{encodings, parts_encoding, fields_encoding}
use Rattle.aml_code.proofs.encode.+encode.Given as goal

abbrev pub invariant-encode_nodes-loop-node : goal.invariant-encode_nodes-loop-node
invariant-encode_nodes-loop-node l =
    l.out.items ++ encodings l.code (nodes_view (drop l.node-index l.nodes)) ≡ l.initial.out.items ++ encodings l.code (nodes_view l.nodes)

abbrev pub invariant-encode_parts-loop-part : goal.invariant-encode_parts-loop-part
invariant-encode_parts-loop-part l =
    l.out.items ++ parts_encoding l.code (parts_view (drop l.part-index l.parts)) ≡ l.initial.out.items ++ parts_encoding l.code (parts_view l.parts)

abbrev pub invariant-encode_fields-loop-field : goal.invariant-encode_fields-loop-field
invariant-encode_fields-loop-field l =
    l.out.items ++ fields_encoding l.code (fields_view (drop l.field-index l.fields)) ≡ l.initial.out.items ++ fields_encoding l.code (fields_view l.fields)
