use Rattle.std.proofs.Common.{◌++◌, ◌∷◌, [], length, take, sym}
use Rattle.std.specs.FinSet as set
use Rattle.aml_names.specs.Paths.{path_cmp}
use Rattle.aml_names.proofs.EndLaws.{greatest_none}
use Rattle.aml_space.proofs.seen.NoLocalsSeen.nearest.Goals as goal

pub returns : goal.returns
returns c = λ scope fits.
    let tail = c.args._segment ∷ [] in
    sym (greatest_none (λ d. set.contains set.empty (take d scope ++ tail)) (length scope) (λ d less. set.contains-empty path_cmp (take d scope ++ tail)))
