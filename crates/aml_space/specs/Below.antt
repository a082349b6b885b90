-- A stepping stone of the proofs: paths by the number of another one and the segments behind it.
use Rattle.std.specs.Prelude.{ℕ, List, ◌++◌, Option}
use Rattle.std.specs.Option.{option_map}
use Rattle.aml_names.specs.declared.segments.Seg.{Seg}
use Rattle.aml_namespace.specs.Kinds.{target_in}
use Rattle.aml_space.specs.declared.below.Below.{Below}

-- the path, by the paths that have numbers
abbrev pub path_below : List (List Seg) → Below → List Seg
path_below paths b = target_in paths b.above ++ b.segs.now

-- the path of some segments behind that of a number, if there is one
abbrev pub path_behind : List (List Seg) → List Seg → Option ℕ → Option (List Seg)
path_behind paths segs above = option_map (λ id. target_in paths id ++ segs) above
