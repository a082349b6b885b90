use Rattle.std.proofs.Common.{◌≡◌, drop}
use Rattle.aml_load.specs.Standings.{standings_view}
use Rattle.aml_walk.specs.Units.{unit_at}
use Rattle.aml_walk.proofs.units.unit_at.Given as goal

abbrev pub invariant-loop-number : goal.invariant-loop-number
invariant-loop-number l =
    unit_at l.number (standings_view l.standing.space (drop l.number l.standing.terms.items)) l.path
    ≡ unit_at 0 (standings_view l.standing.space l.standing.terms.items) l.path
