use Rattle.std.proofs.Common.{◌≡◌, take}
use Rattle.aml_set.specs.Views.{codes_view, table_codes}
use Rattle.aml_load.proofs.loading.unread_tables.Given as goal

abbrev pub invariant-loop-number : goal.invariant-loop-number
invariant-loop-number l = table_codes l.tables.items ≡ codes_view (take l.number l.codes)
