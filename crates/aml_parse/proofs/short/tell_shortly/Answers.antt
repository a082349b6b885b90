use Rattle.aml_parse.proofs.Common.{rules, row_view, op, byte, no_parts, part_more, empty, None}
use Rattle.aml_parse.proofs.TellLaws.{taken_listed}
use Rattle.aml_parse.proofs.ShortLaws.{bare_read, with_byte_read}
use Rattle.aml_parse.proofs.short.tell_shortly.Goals as goal

pub tell_bare-requires-clause-listed : goal.tell_bare-requires-clause-listed
tell_bare-requires-clause-listed g c =
    taken_listed c.args.here.position c.args.end c.args.bytes.now (row_view c.in-Ok.row.now) c.in-Ok.behind.now c.in-Ok.ensures

pub tell_with_byte-requires-clause-listed : goal.tell_with_byte-requires-clause-listed
tell_with_byte-requires-clause-listed g c =
    taken_listed c.args.here.position c.args.end c.args.bytes.now (row_view c.in-Ok.row.now) c.in-Ok.behind.now c.in-Ok.ensures

pub returns-then-is_bare-clause-told : goal.returns-then-is_bare-clause-told
returns-then-is_bare-clause-told g c arity scope ls =
    let row = row_view c.in-Ok.row.now in (
      op row.opcode None no_parts empty,
      (
        bare_read arity scope c.args.here.levels c.args.here.position c.args.end ls c.args.bytes.now row c.in-Ok.behind.now
            c.requires c.in-Ok.ensures (search rules) (search rules) (search rules),
        (tt, c.in_ok-tell_bare.ensures c.args.here.level),
      ),
    )

pub returns-clause-told : goal.returns-clause-told
returns-clause-told g c arity scope ls =
    let row = row_view c.in-Ok.row.now in (
      op row.opcode None (part_more (byte c.in-Ok-one_of.value) no_parts) empty,
      (
        with_byte_read arity scope c.args.here.levels c.args.here.position c.args.end ls c.args.bytes.now row c.in-Ok.behind.now
            c.requires c.in-Ok.ensures (search rules) (search rules)
            c.in-Ok-one_of.value c.in-Ok-one_of.after.now (search rules) c.in-Ok-one_of.ensures,
        (tt, c.in_ok-tell_with_byte.ensures c.args.here.level),
      ),
    )
