use Rattle.aml_code.specs.View.{node_view, parts_view, tail_view}
use Rattle.aml_code.specs.Tree.{encoding, parts_encoding, tail_encoding}
use Rattle.aml_code.proofs.Encodes.{package_written, op_encoded}
use Rattle.aml_code.proofs.encode.+encode.Goals as goal

pub encode_node-returns-in_ok-encode_tail-in-Some :
    goal.encode_node-returns-in_ok-encode_tail-in-Some
encode_node-returns-in_ok-encode_tail-in-Some t c =
    package_written c.in-Op.opcode c.in-Some.width (parts_encoding c.args.code.now (parts_view c.as_slice-in-Some.result.now))
    (tail_encoding c.args.code.now (tail_view c.in-Op.tail))
    c.args.out.now.items _ _ _ _ c.close_package.new.out.items c.in_ok-at-in-Some.at c.in_ok-encode_opcode-in-Op.ensures
    c.in_ok-at-in-Some.ensures.at c.in_ok-at-in-Some.ensures.room
    c.in_ok-encode_parts-in-Some.ensures c.in_ok-encode_tail-in-Some.ensures c.close_package.ensures
    (encoding c.args.code.now (node_view c.args.node.now))
    (op_encoded c.args.code.now c.args.node.now c.in-Op.opcode c.in-Op.width c.in-Some.width c.in-Op.parts c.in-Op.tail c.in-Op.is c.in-Some.is
    c.as_slice-in-Some.result.now c.as_slice-in-Some.ensures.value)
