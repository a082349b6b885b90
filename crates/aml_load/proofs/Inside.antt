-- What a number of the progress stands for it stands for still (`still_path`), and so a site is where it was (`same_site`)
-- and a path below a number is the same (`same_below`).
use Rattle.std.proofs.Common.{◌≡◌, ℕ, ◌<◌, [], ◌++◌, length, ap}
use Rattle.std.proofs.lemmas.Option.{slice_get-get_or, slice_get_within, get_or_from_slice_get}
use Rattle.aml_namespace.specs.Known.{Known, Grows, StandsAt, path_at}
use Rattle.aml_namespace.proofs.Numbers.{still_at}
use Rattle.aml_space.specs.declared.below.Below.{Below}
use Rattle.aml_space.specs.Below.{path_below}
use Rattle.aml_load.specs.declared.sites.Site.{Site}
use Rattle.aml_load.specs.Walking.{at_site, KeepsPaths}

module _ (old new : Known) (keeps : KeepsPaths old new) where
  at_old : (id : ℕ) → id < length old.paths → StandsAt old id (path_at old id)
  at_old id within = slice_get-get_or old.paths id [] within

  pub still_among : (id : ℕ) → id < length old.paths → id < length new.paths
  still_among id within = slice_get_within new.paths id (path_at old id) (keeps id _ (at_old id within))

  pub still_path : (id : ℕ) → id < length old.paths → path_at new id ≡ path_at old id
  still_path id within = get_or_from_slice_get new.paths id (path_at old id) [] (keeps id _ (at_old id within))

  pub same_site : (s : Site) → s.scope < length old.paths → at_site new s ≡ at_site old s
  same_site s within = λ i. record { table = s.table; scope = still_path s.scope within i; any_run = s.any_run; sure = s.sure }

  pub same_below : (b : Below) → b.above < length old.paths → path_below new.paths b ≡ path_below old.paths b
  same_below b within = ap (λ p. p ++ b.segs.now) (still_path b.above within)

-- one step behind another
pub keeps_on : (old mid new : Known) → KeepsPaths old mid → KeepsPaths mid new → KeepsPaths old new
keeps_on old mid new one two id p at = two id p (one id p at)

-- paths more have numbers
pub grows_keeps : (old new : Known) → Grows old new → KeepsPaths old new
grows_keeps old new grows id p = still_at old new id p grows
