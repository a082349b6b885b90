use Rattle.std.proofs.Common.{◌≡◌, ℕ, ◌+◌, ◌-◌, ◌<◌, ◌++◌, List, [], ◌∷◌, length, take, min, sym, ap, subst, ◌∙◌, arith, length-append}
use Rattle.std.proofs.lemmas.List.{append-nil}
use Rattle.std.proofs.Math.Seq.{take-append-add}
use Rattle.aml_names.specs.declared.segments.Seg.{Seg}
use Rattle.aml_namespace.specs.Kinds.{target_in}
use Rattle.aml_namespace.specs.Known.{Known}
use Rattle.aml_space.specs.Nodes.{paths_in, path_of, IsIndex}
use Rattle.aml_space.proofs.Targets.{path_read}
use Rattle.aml_space.proofs.spaces.Space.outside.Goals as goal

-- without segments behind it, it is a front of the path above
front_above : (p above : List Seg) (levels : ℕ) → levels ≡ min (length p) 1 → above ≡ take (length p - levels) p
    → (segs : List Seg) → length segs < 1 → above ++ [] ≡ take (length (p ++ segs) - 1) (p ++ segs)
front_above p above levels one is [] none = append-nil above ∙ is
    ∙ ap (λ n. take n p) {x = length p - levels} {y = length p - 1} (omega (arith, one)) ∙ sym (ap (λ q. take (length q - 1) q) (append-nil p))
front_above p above levels one is (s ∷ q) none = absurd (omega (arith, none))

pub returns-in-empty : goal.returns-in-empty
returns-in-empty c =
    let ns = c.as_slice-nodes.result.now in
    let at = c.numbered-at.result in
    let same : paths_in ns ≡ c.args.self.now.paths = ap paths_in c.as_slice-nodes.ensures.value ∙ ap (λ (k : Known). k.paths) c.self.view_is in
    let read : target_in c.args.self.now.paths c.args.path.now.above ≡ path_of ns at =
    sym (c.numbered-at.ensures.path ∙ ap (λ paths. target_in paths c.args.path.now.above) same) in
    let above : target_in c.args.self.now.paths c.new.result ≡ path_of ns c.ancestor.result =
    ap (target_in c.args.self.now.paths) c.new.ensures ∙ ap (λ paths. target_in paths c.ancestor.result) (sym same)
    ∙ path_read ns c.ancestor.result c.ancestor.ensures.within in
    let is = subst IsIndex (sym c.as_slice-nodes.ensures.value) c.self.invariant.index in
    let deep = is.deep at c.numbered-at.ensures.within in
    ap (λ p. p ++ []) above ∙ front_above (path_of ns at) (path_of ns c.ancestor.result) _ (omega (arith, deep, c.depth_at.ensures, c.min-levels.ensures)) c.ancestor.ensures.path
    c.args.path.now.segs.now c.in-empty.len_below
    ∙ ap (λ p. take (length (p ++ c.args.path.now.segs.now) - 1) (p ++ c.args.path.now.segs.now)) (sym read)

pub returns-in-len1-up : goal.returns-in-len1-up
returns-in-len1-up c =
    let front = target_in c.args.self.now.paths c.args.path.now.above in
    let segs = c.args.path.now.segs.now in
    sym (ap (λ n. take n (front ++ segs)) {x = length (front ++ segs) - 1} {y = length front + (length segs - 1)}
    (omega (arith, length-append front segs, c.in-len1-up.len_at_least)) ∙ take-append-add front segs (length segs - 1))
