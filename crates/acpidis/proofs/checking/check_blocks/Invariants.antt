use Rattle.acpidis.proofs.Common.{◌≡◌, map, take, uncounted}
use Rattle.acpidis.proofs.checking.check_blocks.Given as goal

abbrev pub invariant-loop-table : goal.invariant-loop-table
invariant-loop-table g l = l.all.items ≡ map uncounted (take l.table (g.T.Blocks.blocks l.tables))
