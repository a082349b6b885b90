use Rattle.std.proofs.Common.{◌≡◌, ◌≤◌, ◌+◌, ◌-◌, ◌*◌, List}
use Rattle.std.specs.Prelude.{flat_map}
use Rattle.aml_code.specs.Pieces.{pieces}
use Rattle.aml_code.specs.Tree.{Tree}
use Rattle.aml_parse.specs.Running.{run_terms_at, run_span_at}
use Rattle.aml_parse.proofs.TellLaws.{in_line}
use Rattle.aml_load.specs.Declaring.{Listed}
use Rattle.aml_load.specs.Running.{run_names}
use Rattle.aml_load.specs.Runner.{front_at, below, HasRoom}
use Rattle.aml_load.specs.Walking.{at_site, Holds, Stays}
use Rattle.aml_load.proofs.Runs.{told_then}
use Rattle.aml_load.proofs.walking.Progress.+running.Given as goal

abbrev pub decreases-tell_inside : goal.decreases-tell_inside
decreases-tell_inside g l = 4 * l.rest.levels

abbrev pub decreases-tell_line : goal.decreases-tell_line
decreases-tell_line g l = 4 * l.rest.levels + 1

abbrev pub decreases-tell_terms : goal.decreases-tell_terms
decreases-tell_terms g l = 4 * l.rest.levels + 2

abbrev pub invariant-tell_terms-loop-turn : goal.invariant-tell_terms-loop-turn
invariant-tell_terms-loop-turn g x =
    HasRoom x.code x.here × (x.here.end ≡ x.rest.end) × (x.here.levels ≡ x.rest.levels) × (x.here.level ≡ x.rest.level)
    × (x._turn ≤ x.here.at) × Stays x.initial.self x.self
    × ((front : List Tree)
    × (g.S.Sink.grew x.initial.sink x.sink (flat_map (λ t. in_line x.rest.level (pieces x.rest.level t)) front)
    × ((l : Listed) → Holds x.initial.self l → (m : Listed) × Holds x.self m
    × (told_then front (run_terms_at (run_names x.site.table) x.code x.rest.levels (below x.rest.levels x.site.table x.code) (x.rest.end - x._turn)
    x.here.position x.here.at x.rest.end (front_at (at_site x.initial.self.space x.site) m))
    ≡ run_span_at (run_names x.site.table) x.code x.rest.levels x.rest.position x.rest.at x.rest.end (front_at (at_site x.initial.self.space x.site) l)))))
