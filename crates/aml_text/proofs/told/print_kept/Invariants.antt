use Rattle.aml_text.proofs.Common.{◌≡◌, ℕ, List, ◌++◌, drop, Prints, bodies_lines}
use Rattle.aml_text.specs.Told.{kept_blocks}
use Rattle.aml_text.proofs.told.print_kept.Given as goal

abbrev pub invariant-loop-table : goal.invariant-loop-table
invariant-loop-table g l =
    (done : List ℕ) × Prints g.W.Write.contents l.initial.out l.out done
    × (done ++ kept_blocks l.tables.dumps.now (drop l.table-index l.table-items) l.texts (bodies_lines l.rest)
    ≡ kept_blocks l.tables.dumps.now l.tables.set.now.tables.items l.tables.texts.now (bodies_lines l.bodies))
