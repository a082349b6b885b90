use Rattle.std.proofs.Common.{subst, false, List, ◌≡◌, ◌++◌, map, take, sym, ap, ◌∙◌}
use Rattle.std.specs.FinSet as set
use Rattle.std.specs.Bool.{OnFalse}
use Rattle.aml_names.specs.declared.segments.Seg.{Seg}
use Rattle.aml_names.specs.Paths.{path_cmp}
use Rattle.aml_names.specs.Branches.{whole, IsBranch, Branched}
use Rattle.aml_names.proofs.BranchLaws.{Branch, contained}
use Rattle.aml_names.proofs.branches.Branches.contains.Goals as goal

pub returns-then-may_end : goal.returns-then-may_end
returns-then-may_end g c =
    let own = c.self.inside in
    let b : Branch = (c.branch_of.result.depth, c.branch_of.result.tail.now) in
    let is : IsBranch (g.S.Stand.path own.scope) b = c.branch_of.ensures.branch in
    let path : whole (g.S.Stand.path own.scope) b ≡ take c.args.front (g.S.Stand.path own.scope) ++ c.args.segs.now =
    c.branch_of.ensures.whole in
    c.has_branch.ensures ∙ sym (contained (g.S.Stand.path own.scope) own.kept.keys b c.self.invariant.0 is)
    ∙ ap (set.contains (set.from_list {R = path_cmp} (map (whole (g.S.Stand.path own.scope)) own.kept.keys))) path
    ∙ ap (λ (k : Branched). set.contains k.paths (take c.args.front k.scope ++ c.args.segs.now)) c.self.view_is

pub returns-else-may_end : goal.returns-else-may_end
returns-else-may_end g c =
    let none = subst (λ t. OnFalse t ((front : List Seg) → set.contains c.args.self.now.paths (front ++ c.args.segs.now) ≡ false))
    c.if-may_end.false c.may_end.ensures (take c.args.front c.args.self.now.scope) in
    c.if-may_end.false ∙ sym none
