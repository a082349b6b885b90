use Rattle.std.proofs.Common.{◌++◌, take, sym}
use Rattle.std.specs.FinSet as set
use Rattle.aml_names.specs.Paths.{path_cmp}
use Rattle.aml_space.proofs.seen.NoLocalsSeen.has_below.Goals as goal

pub returns : goal.returns
returns c = λ scope fits. sym (set.contains-empty path_cmp (take c.args._front scope ++ c.args._segs.now))
