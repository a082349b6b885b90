use Rattle.std.proofs.Common.{arith}
use Rattle.aml_load.proofs.Loads.{short_code}
use Rattle.aml_load.proofs.loading.unread_tables.Goals as goal

pub unread-requires : goal.unread-requires
unread-requires c = short_code c.args.codes.now c.loop-number.number _ c.requires (omega arith)
