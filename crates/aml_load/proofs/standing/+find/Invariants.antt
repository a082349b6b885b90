use Rattle.std.proofs.Common.{◌≡◌, ◌++◌, drop}
use Rattle.aml_code.specs.View.{nodes_view}
use Rattle.aml_load.specs.Declaring.{Listed}
use Rattle.aml_load.specs.Standings.{AreStanding, standings_view, walk_all, met_all}
use Rattle.aml_load.specs.Walking.{at_site, Holds, IsInside, Stays}
use Rattle.aml_load.proofs.standing.+find.Given as goal

abbrev pub invariant-find_terms-loop-term : goal.invariant-find_terms-loop-term
invariant-find_terms-loop-term x = let site = at_site x.initial.progress.space x.site in record {
  stays : Stays x.initial.progress x.progress;
  inside : IsInside x.progress x.site;
  finds : (l : Listed) → Holds x.initial.progress l → AreStanding x.initial.progress.space x.initial.found.items
      → (m : Listed) × Holds x.progress m × AreStanding x.progress.space x.found.items
      × (walk_all site m (nodes_view (drop x.term-index x.terms)) ≡ walk_all site l (nodes_view x.terms))
      × (standings_view x.progress.space x.found.items ++ met_all site m (nodes_view (drop x.term-index x.terms))
      ≡ standings_view x.initial.progress.space x.initial.found.items ++ met_all site l (nodes_view x.terms));
}
