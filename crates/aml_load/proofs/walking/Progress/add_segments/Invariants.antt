use Rattle.std.proofs.Common.{◌≡◌, drop, map}
use Rattle.aml_code.specs.Lawful.{plain_name}
use Rattle.aml_load.specs.Declaring.{Listed, units_at}
use Rattle.aml_load.specs.Walking.{at_site, Holds, Stays}
use Rattle.aml_load.proofs.walking.Progress.add_segments.Given as goal

abbrev pub invariant-loop-seg : goal.invariant-loop-seg
invariant-loop-seg x = record {
  stays : Stays x.initial.self x.self;
  walks : (l : Listed) → Holds x.initial.self l → (m : Listed) × Holds x.self m
      × (units_at (at_site x.initial.self.space x.site) m (map plain_name (drop x.seg-index x.segs))
      ≡ units_at (at_site x.initial.self.space x.site) l (map plain_name x.segs));
}
