use Rattle.asl_text.proofs.Common.{◌≡◌, ℕ, List, ◌++◌, drop, length, Prints, bodies_lines}
use Rattle.asl_text.specs.Tables.{woven}
use Rattle.asl_text.proofs.woven.print_woven.Given as goal

abbrev pub invariant-loop-place : goal.invariant-loop-place
invariant-loop-place g l =
    (done : List ℕ) × Prints g.W.Write.contents l.initial.out l.out done
    × (done ++ woven l.code (bodies_lines l.rest) l.text l.from (drop l.place-index l.places)
    ≡ woven l.code (bodies_lines l.bodies) l.text 0 l.places)
    × (drop (length (drop l.place-index l.places)) (bodies_lines l.rest)
    ≡ drop (length l.places) (bodies_lines l.bodies))
