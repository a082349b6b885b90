use Rattle.std.specs.Prelude.{slice_get}
use Rattle.std.proofs.Common.{◌≡◌, ◌+◌, ◌-◌, ◌++◌, true, cond, List, map, length, take, Option, Some, None, OnOk}
use Rattle.std.proofs.Common.{refl, arith, sym, ap, subst, ◌∙◌}
use Rattle.std.proofs.lemmas.Option.{slice_get_within}
use Rattle.std.specs.Option.{option_flatten}
use Rattle.std.specs.FinSet as set
use Rattle.std.specs.List.{list_any}
use Rattle.std.specs.BTreeMap.{is_at, get}
use Rattle.aml_names.specs.declared.segments.Seg.{Seg}
use Rattle.aml_names.specs.Paths.{seg_cmp, path_cmp}
use Rattle.aml_names.specs.Branches.{whole, branch_cmp, IsBranch, AreBranches, Branched}
use Rattle.aml_names.specs.Searching.{KnowEnds, deeper}
use Rattle.aml_names.proofs.BranchLaws.{Branch, still_branches, one_kept, met_depth}
use Rattle.aml_names.proofs.EndLaws.{known_root, known_pushed, known_back, not_refused, there_is}
use Rattle.aml_names.proofs.branches.Branches.insert.Goals as goal
use Rattle.aml_names.proofs.branches.Branches.insert.Goals.{in-Ok, in-Err, In_ok-tail}
use Rattle.aml_names.proofs.branches.Branches.insert.Given.{Over}

none_by : (o : Option Seg) → ((x : Seg) → o ≡ Some x → ⊥) → o ≡ None
none_by None h = refl
none_by (Some x) h = absurd (h x refl)

-- the branch that is added, and its path
abbrev added : (g : Over) → In_ok-tail g → Branch
added g c = (c.branch_of-branch.result.depth, c.branch_of-branch.result.tail.now)

is_branch : (g : Over) (c : In_ok-tail g) → IsBranch (g.S.Stand.path c.self.inside.scope) (added g c)
is_branch g c = c.branch_of-branch.ensures.branch

abbrev paths_of : List Seg → List Branch → set.FinSet path_cmp
paths_of scope bs = set.from_list (map (whole scope) bs)

whole_is : (g : Over) (c : In_ok-tail g)
    → whole (g.S.Stand.path c.self.inside.scope) (added g c) ≡ take c.args.front c.args.self.now.scope ++ c.args.segs.now
whole_is g c =
    c.branch_of-branch.ensures.whole
    ∙ ap (λ (b : Branched). take c.args.front b.scope ++ c.args.segs.now) c.self.view_is

-- the keys grow by the branch
grown : (g : Over) (c : In_ok-tail g) (more : List Branch) → ((q : Branch) → list_any (is_at (branch_cmp q)) more
    ≡ cond (is_at (branch_cmp (c.branch_of-branch.result.depth, c.in_ok-tail.tail)) q) true (list_any (is_at (branch_cmp q)) c.self.inside.kept.keys))
    → (q : Branch)
    → list_any (is_at (branch_cmp q)) more ≡ cond (is_at (branch_cmp (added g c)) q) true (list_any (is_at (branch_cmp q)) c.self.inside.kept.keys)
grown g c more updated q = updated q
    ∙ ap (λ t. cond (is_at (branch_cmp (c.branch_of-branch.result.depth, t)) q) true (list_any (is_at (branch_cmp q)) c.self.inside.kept.keys)) c.in_ok-tail.ensures

kept_more : (g : Over) (c : In_ok-tail g) (more : List Branch) → ((q : Branch) → list_any (is_at (branch_cmp q)) more
    ≡ cond (is_at (branch_cmp (c.branch_of-branch.result.depth, c.in_ok-tail.tail)) q) true (list_any (is_at (branch_cmp q)) c.self.inside.kept.keys))
    → AreBranches (g.S.Stand.path c.self.inside.scope) more
    × (paths_of (g.S.Stand.path c.self.inside.scope) more ≡ set.insert (paths_of (g.S.Stand.path c.self.inside.scope) c.self.inside.kept.keys) (whole (g.S.Stand.path c.self.inside.scope) (added g c)))
kept_more g c more updated = (
  still_branches (g.S.Stand.path c.self.inside.scope) c.self.inside.kept.keys more (added g c) c.self.invariant.0 (is_branch g c) (grown g c more updated),
  one_kept (g.S.Stand.path c.self.inside.scope) c.self.inside.kept.keys more (added g c) c.self.invariant.0 (is_branch g c) (grown g c more updated),
)

pub returns-in_default-clause-ok : goal.returns-in_default-clause-ok
returns-in_default-clause-ok g c =
    let at = (goal.at.returns-in_default-clause-ok g c).In_ok-tail in
    (kept_more g at c.insert.new.self.keys c.in_ok-insert.ensures.updates.0).1
    ∙ (λ i. set.insert (ap (λ (b : Branched). b.paths) c.self.view_is i) (whole_is g at i))

pub invariant_of-self-in_default : goal.invariant_of-self-in_default
invariant_of-self-in_default g c =
    let at = (goal.at.invariant_of-self-in_default g c).In_ok-tail in
    let own = c.self.inside in
    let p = whole (g.S.Stand.path own.scope) (added g at) in
    let more = kept_more g at c.insert.new.self.keys c.in_ok-insert.ensures.updates.0 in
    let none : slice_get p (length p - 1) ≡ None =
    sym c.last_of.ensures ∙ none_by c.last_of.result c.in_default.not-Some in (
      more.0,
      subst (λ s. KnowEnds s (g.S.Stand.path own.scope) (get seg_cmp own.ends)) (sym more.1)
          (known_root (paths_of (g.S.Stand.path own.scope) own.kept.keys) (g.S.Stand.path own.scope) p (get seg_cmp own.ends) c.self.invariant.1 none),
    )

pub returns-clause-ok : goal.returns-clause-ok
returns-clause-ok g c =
    let at = (goal.at.returns-clause-ok g c).In_ok-tail in
    let wanted = set.insert c.args.self.now.paths (take c.args.front c.args.self.now.scope ++ c.args.segs.now) in
    elim c.match-insert.branch [
      | in-Ok w ↦ subst (λ r. OnOk r (c.match-insert.self.paths ≡ wanted)) (sym w.result-is)
          (ap (λ (b : Branched). b.paths) w.self-is
          ∙ (kept_more g at c.insert-2.new.self.keys w.in-Ok.ensures.updates.0).1
          ∙ (λ i. set.insert (ap (λ (b : Branched). b.paths) c.self.view_is i) (whole_is g at i)))
      | in-Err w ↦ subst (λ r. OnOk r (c.match-insert.self.paths ≡ wanted)) (sym w.result-is) tt
    ]

pub invariant_of-self-in-Err : goal.invariant_of-self-in-Err
invariant_of-self-in-Err g c =
    let own = c.self.inside in
    let paths = paths_of (g.S.Stand.path own.scope) own.kept.keys in
    let e = c.in-Some.end in
    let old = get seg_cmp own.ends in
    let met = get seg_cmp c.deepen.new.ends in
    let deepened = c.in_ok-known.ensures.ok in
    let depth = deeper c.depth_of.result (option_flatten (old e)) in
    let there = there_is paths met e depth (old e) (deepened e) in
    let back = not_refused c.insert-in-Err.result c.insert-in-Err.ensures.updates c.insert-in-Err.ensures.absent there in (
      subst (AreBranches (g.S.Stand.path own.scope)) (sym c.in-Err.ensures.err) c.self.invariant.0,
      subst (λ ks. KnowEnds (paths_of (g.S.Stand.path own.scope) ks) (g.S.Stand.path own.scope) (get seg_cmp c.insert-in-Err.new.self)) (sym c.in-Err.ensures.err)
          (known_back paths (g.S.Stand.path own.scope) old met (get seg_cmp c.insert-in-Err.new.self) e depth c.in_ok-known.known c.self.invariant.1
          c.in_ok-known.ensures.known deepened back.0),
    )

pub invariant_of-self-in-Ok : goal.invariant_of-self-in-Ok
invariant_of-self-in-Ok g c =
    let at = (goal.at.invariant_of-self-in-Ok g c).In_ok-tail in
    let own = c.self.inside in
    let b = added g at in
    let p = whole (g.S.Stand.path own.scope) b in
    let e = c.in-Some.end in
    let k = length p - 1 in
    let more = kept_more g at c.insert-2.new.self.keys c.in-Ok.ensures.updates.0 in
    let is : slice_get p k ≡ Some e =
    sym c.last_of.ensures ∙ c.in-Some.is in
    let long : k + 1 ≡ length p = omega (arith, slice_get_within p k e is) in (
      more.0,
      subst (λ s. KnowEnds s (g.S.Stand.path own.scope) (get seg_cmp c.deepen.new.ends)) (sym more.1)
          (known_pushed (paths_of (g.S.Stand.path own.scope) own.kept.keys) (g.S.Stand.path own.scope) p e is k long (get seg_cmp own.ends) (get seg_cmp c.deepen.new.ends)
          c.depth_of.result c.self.invariant.1 (c.depth_of.ensures ∙ met_depth (g.S.Stand.path own.scope) b.0 b.1 k (is_branch g at) long) c.in_ok-known.ensures.ok),
    )
