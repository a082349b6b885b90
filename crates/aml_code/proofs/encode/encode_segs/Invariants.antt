use Rattle.std.proofs.Common.{◌≡◌, ◌++◌, List, drop, ℕ}
use Rattle.std.specs.List.{flat_map}
use Rattle.aml_names.specs.declared.segments.Seg.{Seg}
use Rattle.aml_code.proofs.encode.encode_segs.Given as goal

abbrev pub invariant-loop-seg : goal.invariant-loop-seg
invariant-loop-seg l =
    let bytes : List Seg → List ℕ = flat_map (λ (s : Seg). s.0) in
    l.out.items ++ bytes (drop l.seg-index l.segs) ≡ l.initial.out.items ++ bytes l.segs
