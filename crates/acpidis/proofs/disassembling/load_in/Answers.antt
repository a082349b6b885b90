use Rattle.acpidis.proofs.Common.{subst, sym, table_codes, indexes_in}
use Rattle.acpidis.specs.Refusals.{TellsLoad}
use Rattle.acpidis.proofs.MeaningLaws.{tells_load}
use Rattle.acpidis.proofs.disassembling.load_in.Goals as goal

pub returns-in-Ok-clause-sound : goal.returns-in-Ok-clause-sound
returns-in-Ok-clause-sound c = rw (← c.none_unknown.ensures, ← c.as_slice.ensures.value) c.in-Ok.ensures.sound

pub returns-in-Err-clause-tells : goal.returns-in-Err-clause-tells
returns-in-Err-clause-tells c =
    subst (TellsLoad c.args.options.now (table_codes c.args.tables.items) (indexes_in c.args.order.now)) (sym c.refused_load.ensures)
    (tells_load c.args.options.now (table_codes c.args.tables.items) (indexes_in c.args.order.now) _ _ c.in-Err.fault c.none_unknown.ensures c.as_slice.ensures.value c.in-Err.ensures.true_fault c.in-Err.ensures.forward)
