use Rattle.std.proofs.Common.{◌≡◌, take}
use Rattle.aml_set.specs.Views.{table_dumps}
use Rattle.acpidis_c.proofs.contents.dumps_of.Given as goal

abbrev pub invariant-loop-table : goal.invariant-loop-table
invariant-loop-table l = l.dumps.items ≡ table_dumps (take l.table-index l.tables)
