use Rattle.std.proofs.Common.{◌≡◌, drop, map, IfSome}
use Rattle.std.specs.Prelude.{flat_map}
use Rattle.aml_space.specs.Nodes.{known_by, paths_in}
use Rattle.aml_namespace.specs.Kinds.{kind_in}
use Rattle.aml_namespace.specs.Known.{outlook_in}
use Rattle.aml_namespace.specs.Runs.{counts_by}
use Rattle.aml_namespace.specs.Tallies.{joined, counts_in}
use Rattle.aml_space.proofs.counting.counts_of_kinds.Given as goal

abbrev pub invariant-loop-kind : goal.invariant-loop-kind
invariant-loop-kind l = let f = counts_by (outlook_in (known_by l.nodes)) in let show = kind_in (paths_in l.nodes) in
    (joined l.fn.first (counts_in (flat_map f (map show l.kinds)))
    ≡ joined l.counts (counts_in (flat_map f (map show (drop l.kind-index l.kinds)))))
    × IfSome l.last (λ k. joined l.counts (counts_in (f (show k))) ≡ l.counts)
