use Rattle.std.proofs.Common.{◌≡◌, ℕ, zero, suc, ◌-◌, ◌≤◌, List, is_some, length, refl, sym, ap, ◌∙◌, arith}
use Rattle.std.specs.List.{find}
use Rattle.std.specs.FinSet as set
use Rattle.aml_names.specs.declared.segments.Seg.{Seg}
use Rattle.aml_names.specs.Searching.{upward}
use Rattle.aml_space.specs.declared.scopes.Scope.{Scope}
use Rattle.aml_namespace.specs.Runs.{is_known}
use Rattle.aml_space.specs.Candidates.{path_in, names_of, IsNextOf}
use Rattle.aml_namespace.specs.Searching.{above}
use Rattle.aml_space.proofs.Asked.{none_known_below}
use Rattle.aml_namespace.proofs.Meeting.{known_here, known_on, known_root, skip_known}
use Rattle.aml_space.proofs.scopes.Scope.is_known_above.Goals as goal
use Rattle.aml_space.proofs.scopes.Scope.is_known_above.Goals.{After-is_known_at}

-- from a depth up to the next one that is asked
further : (s : Scope) (segment : List Seg) → length segment ≡ 1 → (d asked : ℕ) → d ≤ length (path_in s)
    → IsNextOf (names_of s) (path_in s) segment d asked
    → find (is_known (names_of s)) (upward d (path_in s) segment) ≡ find (is_known (names_of s)) (upward asked (path_in s) segment)
further s segment one d asked within next = skip_known (names_of s) set.empty (path_in s) segment asked d next.within
    (none_known_below (names_of s) (path_in s) segment one d asked within next)

above_on : (scope segment : List Seg) (d : ℕ) → (d ≡ 0 → ⊥) → above scope segment d ≡ upward (d - 1) scope segment
above_on scope segment zero some = absurd (some refl)
above_on scope segment (suc d) some = ap (λ n. upward n scope segment) {x = d} {y = suc d - 1} (omega arith)

-- what is left to find, from the level on
same_here : (c : After-is_known_at)
    → find (is_known (names_of c.args.self.now)) (above (path_in c.args.self.now) c.args.segment.now c.args.below)
    ≡ find (is_known (names_of c.args.self.now)) (upward c.levels.level.depth (path_in c.args.self.now) c.args.segment.now)
same_here c =
    let inv = c.levels.invariant.1 in
    inv.same ∙ further c.args.self.now c.args.segment.now c.requires.one c.levels.invariant.0 c.levels.level.depth inv.within inv.next.next

pub levels-init : goal.levels-init
levels-init c = (
  c.args.below - 1,
  record {
    within = omega (arith, c.requires.within);
    next = c.with_below-level.ensures;
    same = ap (find (is_known (names_of c.args.self.now))) (above_on (path_in c.args.self.now) c.args.segment.now c.args.below c.if-below-eq0.false);
  },
)

pub returns-then-is_known_at : goal.returns-then-is_known_at
returns-then-is_known_at c =
    let s = c.args.self.now in
    sym (ap is_some (same_here (goal.at.returns-then-is_known_at c).After-is_known_at)
    ∙ known_here (names_of s) set.empty (path_in s) c.args.segment.now c.levels.level.depth (sym c.is_known_at.ensures ∙ c.if-is_known_at.true))

pub returns-then-level-eq0 : goal.returns-then-level-eq0
returns-then-level-eq0 c =
    let s = c.args.self.now in
    sym (ap is_some (same_here (goal.at.returns-then-level-eq0 c).After-is_known_at)
    ∙ known_root (names_of s) set.empty (path_in s) c.args.segment.now c.levels.level.depth c.if-level-eq0.true
    (sym c.is_known_at.ensures ∙ c.if-is_known_at.false))

pub levels-preserved : goal.levels-preserved
levels-preserved c =
    let s = c.args.self.now in
    let d = c.levels.level.depth in (
      d - 1,
      record {
        within = omega (arith, c.levels.invariant.1.next.level.within);
        next = c.with_above-level.ensures;
        same = same_here (goal.at.levels-preserved c).After-is_known_at ∙ known_on (names_of s) set.empty (path_in s) c.args.segment.now d
            (sym c.is_known_at.ensures ∙ c.if-is_known_at.false) (omega (arith, c.if-level-eq0.false));
      },
    )
