use Rattle.std.proofs.Common.{◌≡◌, [], List, drop, length, take}
use Rattle.aml_code.specs.Tree.{Trees}
use Rattle.aml_load.specs.Declaring.{Listed}
use Rattle.aml_load.specs.Kept.{AreKeptOf}
use Rattle.aml_load.specs.Tables.{tables_at}
use Rattle.aml_load.specs.Walking.{Holds}
use Rattle.aml_set.specs.Views.{table_codes}
use Rattle.aml_load.proofs.loading.hear_tables.Given as goal

abbrev pub invariant-loop-number : goal.invariant-loop-number
invariant-loop-number g x = (length x.kept.items ≡ x.number) × ((trees : List Trees)
    × (AreKeptOf g.S.TableSink.keeps x.sink (take x.number (table_codes x.tables)) trees x.kept.items
    × ((l : Listed) → Holds x.initial.heard l → (m : Listed) × Holds x.heard m
    × (tables_at x.any_run x.number trees m (drop x.number (table_codes x.tables))
    ≡ tables_at x.any_run 0 [] l (table_codes x.tables)))))
