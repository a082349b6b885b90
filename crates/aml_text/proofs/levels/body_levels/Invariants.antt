use Rattle.aml_text.proofs.Common.{◌≡◌, ◌++◌, drop}
use Rattle.aml_text.specs.Told.{levels_kept}
use Rattle.aml_text.proofs.levels.body_levels.Given as goal

abbrev pub invariant-loop-table : goal.invariant-loop-table
invariant-loop-table l =
    l.levels.items ++ levels_kept (drop l.table-index l.table-items) l.texts ≡ levels_kept l.tables.set.now.tables.items l.tables.texts.now
