use Rattle.std.proofs.Common.{◌≡◌, ◌++◌, false, List, map, sym, ap, subst, ◌∙◌}
use Rattle.std.proofs.lemmas.Bool.{OnFalse_from}
use Rattle.std.specs.BTreeMap.{get}
use Rattle.std.specs.FinSet as set
use Rattle.aml_names.specs.declared.segments.Seg.{Seg}
use Rattle.aml_names.specs.Paths.{seg_cmp, path_cmp}
use Rattle.aml_names.specs.Branches.{whole, Branched}
use Rattle.aml_names.specs.Searching.{IsKnown}
use Rattle.aml_names.proofs.EndLaws.{is_none}
use Rattle.aml_names.proofs.BranchLaws.{known_last}
use Rattle.aml_names.proofs.branches.Branches.may_end.Goals as goal

pub returns-in-Some : goal.returns-in-Some
returns-in-Some g c =
    let own = c.self.inside in
    let e = c.in-Some.end.now in
    let known = get seg_cmp own.ends in
    let paths = set.from_list {R = path_cmp} (map (whole (g.S.Stand.path own.scope)) own.kept.keys) in
    OnFalse_from c.contains_key.result ((front : List Seg) → set.contains c.args.self.now.paths (front ++ c.args.segs.now) ≡ false) (λ none front.
    ap (λ (k : Branched). set.contains k.paths (front ++ c.args.segs.now)) (sym c.self.view_is)
    ∙ known_last paths (g.S.Stand.path own.scope) front c.args.segs.now e (sym (c.in-Some.ensures.value))
    (subst (IsKnown paths (g.S.Stand.path own.scope) e) (is_none (known e) (sym c.contains_key.ensures ∙ none)) (c.self.invariant.1 e)))
