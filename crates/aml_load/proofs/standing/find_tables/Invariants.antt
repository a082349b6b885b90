use Rattle.std.proofs.Common.{◌≡◌, ◌++◌, drop}
use Rattle.aml_set.specs.Views.{trees_view}
use Rattle.aml_load.specs.Declaring.{Listed}
use Rattle.aml_load.specs.Standings.{AreStanding, standings_view, walk_tables, met_tables}
use Rattle.aml_load.specs.Walking.{Holds}
use Rattle.aml_load.proofs.standing.find_tables.Given as goal

abbrev pub invariant-loop-table : goal.invariant-loop-table
invariant-loop-table x =
    (l : Listed) → Holds x.initial.progress l → AreStanding x.initial.progress.space x.initial.found.items
    → (m : Listed) × Holds x.progress m × AreStanding x.progress.space x.found.items
    × (walk_tables x.any_run x.table m (trees_view (drop x.table x.trees)) ≡ walk_tables x.any_run 0 l (trees_view x.trees))
    × (standings_view x.progress.space x.found.items ++ met_tables x.any_run x.table m (trees_view (drop x.table x.trees))
    ≡ standings_view x.initial.progress.space x.initial.found.items ++ met_tables x.any_run 0 l (trees_view x.trees))
