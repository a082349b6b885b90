use Rattle.std.proofs.Common.{◌≡◌, ℕ, ◌-◌, ◌<◌, ◌≤◌, List, [], ◌∷◌, ◌++◌, Option, take, get_or, length, false, refl}
use Rattle.std.proofs.Common.{sym, ap, ◌∙◌, subst, arith, IfSome}
use Rattle.std.specs.Prelude.{is_some}
use Rattle.std.specs.FinSet as set
use Rattle.aml_names.specs.declared.segments.Seg.{Seg}
use Rattle.aml_names.specs.Paths.{PathSet}
use Rattle.aml_names.specs.Searching.{upward, nearest}
use Rattle.aml_space.specs.declared.scopes.Scope.{Scope}
use Rattle.aml_space.specs.Nodes.{known_by}
use Rattle.aml_namespace.specs.Runs.{counts_met, counts_of}
use Rattle.aml_namespace.specs.Tallies.{joined, counts_in}
use Rattle.aml_space.specs.Candidates.{path_in, names_of, outlook_at, IsNextOf}
use Rattle.aml_space.proofs.Asked.{none_known_below, of_sooner}
use Rattle.aml_namespace.proofs.Nearest.{near_within, passed_by, local_there, other_there, no_local, some_local}
use Rattle.aml_namespace.proofs.Nearest.{less_above, less_here}
use Rattle.aml_namespace.proofs.Meeting.{first_in, at_local, at_sure, at_root, on_from, skip_met}
use Rattle.aml_space.proofs.scopes.Scope.counts.Goals as goal
use Rattle.aml_space.proofs.scopes.Scope.counts.Given.{Over}
use Rattle.aml_space.proofs.scopes.Scope.counts.Goals.{After-joined-counts}

-- from a depth up to another, between which nothing stands
further : (s : Scope) (locals : PathSet) (segment : List Seg) → length segment ≡ 1 → (o : Option ℕ) →
    o ≡ nearest locals (path_in s) (get_or segment 0 (record { 0 = [] }) ∷ []) → (d asked : ℕ) → d ≤ length (path_in s) →
    IsNextOf (names_of s) (path_in s) segment d asked → IfSome o (λ n. n ≤ asked) →
    counts_met (outlook_at s) locals (upward d (path_in s) segment) ≡ counts_met (outlook_at s) locals (upward asked (path_in s) segment)
further s locals segment one o is d asked within next above = skip_met (outlook_at s) locals (path_in s) segment (first_in (known_by s.nodes.now)) asked d
    next.within (passed_by locals (path_in s) segment one o is d asked within above)
    (λ e more less. (none_known_below (names_of s) (path_in s) segment one d asked within next e more less).0)

-- no local stands at the level or further down
none_here : (g : Over) (c : After-joined-counts g) → IfSome c.in_ok-nearest.nearest (λ n. n < c.levels.level.depth)
none_here g c = no_local c.in_ok-nearest.nearest c.levels.level.depth (sym (c.is_some.ensures ∙ ap is_some c.nearer.ensures) ∙ c.if-is_some.false)

other : (g : Over) (c : After-joined-counts g)
    → set.contains (g.L.Seen.paths c.args.locals.now) (take c.levels.level.depth (path_in c.args.self.now) ++ c.args.segment.now) ≡ false
other g c = other_there (g.L.Seen.paths c.args.locals.now) (path_in c.args.self.now) c.args.segment.now c.requires.one c.in_ok-nearest.nearest (c.in_ok-nearest.ensures (path_in c.args.self.now) c.requires.seen)
    c.levels.level.depth c.levels.invariant.1.next.level.within (none_here g c)

-- what is left to meet, from the level on
same_here : (g : Over) (c : After-joined-counts g)
    → counts_in (counts_met (outlook_at c.args.self.now) (g.L.Seen.paths c.args.locals.now) (upward (length (path_in c.args.self.now)) (path_in c.args.self.now) c.args.segment.now))
    ≡ joined c.levels.counts
    (counts_in (counts_met (outlook_at c.args.self.now) (g.L.Seen.paths c.args.locals.now) (upward c.levels.level.depth (path_in c.args.self.now) c.args.segment.now)))
same_here g c =
    let inv = c.levels.invariant.1 in
    inv.same ∙ ap (λ ns. joined c.levels.counts (counts_in ns))
    (further c.args.self.now (g.L.Seen.paths c.args.locals.now) c.args.segment.now c.requires.one c.in_ok-nearest.nearest (c.in_ok-nearest.ensures (path_in c.args.self.now) c.requires.seen)
    c.levels.invariant.0 c.levels.level.depth inv.within inv.next.next (less_here c.in_ok-nearest.nearest c.levels.level.depth (none_here g c)))

so_far : (g : Over) (c : After-joined-counts g) → c.joined-counts.result
    ≡ joined c.levels.counts (counts_in (counts_of (outlook_at c.args.self.now) (take c.levels.level.depth (path_in c.args.self.now) ++ c.args.segment.now)))
so_far g c = c.joined-counts.ensures ∙ ap (joined c.levels.counts) c.counts_at-here.ensures.counts

pub levels-init : goal.levels-init
levels-init g c =
    let s = c.args.self.now in (
      length (path_in s),
      record {
        within = omega arith;
        above = near_within (g.L.Seen.paths c.args.locals.now) (path_in s) c.args.segment.now c.requires.one c.in_ok-nearest.nearest (c.in_ok-nearest.ensures (path_in c.args.self.now) c.requires.seen);
        next = c.requires.first;
        same = refl;
      },
    )

pub returns-then-is_some : goal.returns-then-is_some
returns-then-is_some g c =
    let s = c.args.self.now in
    let from = c.levels.invariant.0 in
    let inv = c.levels.invariant.1 in
    let near = c.in_ok-nearest.nearest in
    let there = some_local near c.levels.level.depth (sym (c.is_some.ensures ∙ ap is_some c.nearer.ensures) ∙ c.if-is_some.true) in
    let within : there.0 ≤ from = subst (λ o. IfSome o (λ n. n ≤ from)) there.1 inv.above in
    c.joined.ensures ∙ sym (inv.same ∙ ap (λ ns. joined c.levels.counts (counts_in ns)) (further s (g.L.Seen.paths c.args.locals.now) c.args.segment.now
    c.requires.one near (c.in_ok-nearest.ensures (path_in c.args.self.now) c.requires.seen) from there.0
    inv.within (of_sooner (names_of s) (path_in s) c.args.segment.now from c.levels.level.depth there.0 there.2 within inv.next.next)
    (subst (λ o. IfSome o (λ n. n ≤ there.0)) (sym there.1) (omega arith)))
    ∙ at_local (outlook_at s) (g.L.Seen.paths c.args.locals.now) (path_in s) c.args.segment.now c.levels.counts there.0
    (local_there (g.L.Seen.paths c.args.locals.now) (path_in s) c.args.segment.now c.requires.one near (c.in_ok-nearest.ensures (path_in c.args.self.now) c.requires.seen) there.0 there.1))

pub returns-then-level-eq0 : goal.returns-then-level-eq0
returns-then-level-eq0 g c =
    let s = c.args.self.now in
    let b = (goal.at.returns-then-level-eq0 g c).After-joined-counts in
    so_far g b ∙ sym (same_here g b ∙ at_root (outlook_at s) (g.L.Seen.paths c.args.locals.now) (path_in s) c.args.segment.now c.levels.counts c.levels.level.depth
    c.if-level-eq0.true (other g b))

pub returns-then-sure : goal.returns-then-sure
returns-then-sure g c =
    let s = c.args.self.now in
    let b = (goal.at.returns-then-sure g c).After-joined-counts in
    so_far g b ∙ sym (same_here g b ∙ at_sure (outlook_at s) (g.L.Seen.paths c.args.locals.now) (path_in s) c.args.segment.now c.levels.counts c.levels.level.depth (other g b)
    (sym c.counts_at-here.ensures.sure ∙ c.if-sure.true))

pub levels-preserved : goal.levels-preserved
levels-preserved g c =
    let s = c.args.self.now in
    let d = c.levels.level.depth in
    let inv = c.levels.invariant.1 in
    let b = (goal.at.levels-preserved g c).After-joined-counts in
    let positive : 0 < d = omega (arith, c.if-level-eq0.false) in (
      d - 1,
      record {
        within = omega (arith, inv.next.level.within);
        above = less_above c.in_ok-nearest.nearest d positive (none_here g b);
        next = c.with_above-level.ensures;
        same = same_here g b ∙ on_from (outlook_at s) (g.L.Seen.paths c.args.locals.now) (path_in s) c.args.segment.now c.levels.counts d (other g b)
            (sym c.counts_at-here.ensures.sure ∙ c.if-sure.false) positive
            ∙ ap (λ m. joined m (counts_in (counts_met (outlook_at s) (g.L.Seen.paths c.args.locals.now) (upward (d - 1) (path_in s) c.args.segment.now)))) (sym (so_far g b));
      },
    )
