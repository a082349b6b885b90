use Rattle.aml_text.proofs.Common.{◌≡◌, ◌++◌, drop}
use Rattle.asl_text.specs.Tables.{place_levels}
use Rattle.aml_text.proofs.told.push_place_levels.Given as goal

abbrev pub invariant-loop-place : goal.invariant-loop-place
invariant-loop-place l =
    l.levels.items ++ place_levels (drop l.place-index l.text.places.items) ≡ l.initial.levels.items ++ place_levels l.text.places.items
