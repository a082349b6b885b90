use Rattle.acpidis.proofs.Common.{table_codes}
use Rattle.acpidis.proofs.MeaningLaws.{kept_so}
use Rattle.acpidis.proofs.disassembling.load_names_in.Goals as goal

pub returns-in-Ok-clause-loads : goal.returns-in-Ok-clause-loads
returns-in-Ok-clause-loads g c =
    kept_so g.S.TableSink.keeps c.args.sink.now c.args.options.now (table_codes c.args.tables.items) c.in-Ok.loaded
    (rw (c.as_slice.ensures.value, c.none_unknown.ensures) at c.in-Ok.ensures.sound)
    (rw (c.as_slice.ensures.value, c.none_unknown.ensures) at c.in-Ok.ensures.one)
