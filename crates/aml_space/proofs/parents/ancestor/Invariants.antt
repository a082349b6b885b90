use Rattle.std.proofs.Common.{◌≡◌, ◌<◌, ◌++◌, List, length}
use Rattle.aml_names.specs.declared.segments.Seg.{Seg}
use Rattle.aml_space.specs.Nodes.{path_of}
use Rattle.aml_space.proofs.parents.ancestor.Given as goal

abbrev pub invariant-loop-level : goal.invariant-loop-level
invariant-loop-level l =
    (l.at < length l.nodes)
    × ((rest : List Seg) × (path_of l.nodes l.at ++ rest ≡ path_of l.nodes l.from) × (length rest ≡ l._level))
