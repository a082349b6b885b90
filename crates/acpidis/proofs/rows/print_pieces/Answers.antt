use Rattle.acpidis.proofs.Common.{arith, param_sync, arg_sync}
use denote.Exit.{no}
use Rattle.aml_text.proofs.PieceLaws.{pieces_are}
use Rattle.acpidis.proofs.Sharing.{printing_sync}
use Rattle.acpidis.proofs.rows.print_pieces.Goals as goal

pub harvest-requires-sync-W : goal.harvest-requires-sync-W
harvest-requires-sync-W g c κs within = param_sync 1 _ (arg_sync _ no _ (printing_sync _ _))

pub returns-in-Ok : goal.returns-in-Ok
returns-in-Ok g c =
    pieces_are c.args.rows.now c.in-Ok.found.items.items
    (omega (arith, c.in-Ok.ensures.results.items_len, c.count_pieces-count.ensures, c.if-count-gt-MOST_PIECES.false))
    c.in-Ok.ensures.results.results
