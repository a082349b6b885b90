use Rattle.std.proofs.Common.{◌≡◌, ◌≤◌, [], ◌∷◌, ◌++◌, length, take}
use Rattle.std.specs.FinSet as set
use Rattle.aml_names.specs.Searching.{greatest, nearest}
use Rattle.aml_names.proofs.locals.Locals.nearest.Given as goal

abbrev pub invariant-depths : goal.invariant-depths
invariant-depths l = record {
  within : l.depth ≤ length l.scope;
  asked : l.path ≡ take l.depth l.scope ++ l.fn.segment ∷ [];
  same : nearest l.self l.scope (l.fn.segment ∷ []) ≡ greatest (λ d. set.contains l.self (take d l.scope ++ l.fn.segment ∷ [])) l.depth;
}

abbrev pub decreases-depths : goal.decreases-depths
decreases-depths l = l.depth
