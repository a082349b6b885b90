use Rattle.std.proofs.Common.{◌≡◌, ℕ, ◌-◌, ◌++◌, List, Option, Some, None, take, length, refl, sym, ap, ◌∙◌, arith}
use Rattle.std.specs.FinSet as set
use Rattle.aml_names.specs.declared.segments.Seg.{Seg}
use Rattle.aml_names.specs.Searching.{upward}
use Rattle.aml_space.specs.declared.scopes.Scope.{Scope}
use Rattle.aml_space.specs.declared.walking.Aside.{Aside}
use Rattle.aml_space.specs.Candidates.{path_in, names_of, aside_in, IsNextOf}
use Rattle.aml_namespace.specs.Namespace.{first_count}
use Rattle.aml_space.proofs.Asked.{none_aside_below}
use Rattle.aml_namespace.proofs.Given.{here_counts, above_counts, root_counts, skip_counts}
use Rattle.aml_space.proofs.Meaning.{aside_of_met}
use Rattle.aml_space.proofs.scopes.Scope.first_count.Goals as goal
use Rattle.aml_space.proofs.scopes.Scope.first_count.Goals.{After-aside_at, In_default}

-- what is told of some paths
abbrev told : Aside → Scope → List Seg → Option ℕ
told a s = aside_in a (names_of s)

-- from a depth up to the next one that is asked
further : (a : Aside) (s : Scope) (segment : List Seg) (d asked : ℕ) → IsNextOf (names_of s) (path_in s) segment d asked →
    first_count (told a s) (upward d (path_in s) segment) ≡ first_count (told a s) (upward asked (path_in s) segment)
further a s segment d asked next = skip_counts (names_of s) set.empty (told a s) (path_in s) segment asked d next.within
    (none_aside_below (names_of s) (path_in s) segment a d asked next)

none_by : (o : Option ℕ) → ((x : ℕ) → o ≡ Some x → ⊥) → o ≡ None
none_by None h = refl
none_by (Some x) h = absurd (h x refl)

-- what is told of the candidate at the level
here : (c : After-aside_at)
    → c.aside_at.result ≡ told c.args.aside c.args.self.now (take c.levels.level.depth (path_in c.args.self.now) ++ c.args.segment.now)
here c = c.aside_at.ensures ∙ aside_of_met c.args.self.now.nodes.now c.requires.scope.index.shape
    (take c.levels.level.depth (path_in c.args.self.now) ++ c.args.segment.now) c.node_at-node.result c.node_at-node.ensures.node c.args.aside

none_here : (c : In_default)
    → told c.args.aside c.args.self.now (take c.levels.level.depth (path_in c.args.self.now) ++ c.args.segment.now) ≡ None
none_here c = sym (here (goal.at.In_default c).After-aside_at) ∙ none_by c.aside_at.result c.in_default.not-Some

-- what is left to find, from the level on
same_here : (c : After-aside_at)
    → first_count (told c.args.aside c.args.self.now) (upward (length (path_in c.args.self.now)) (path_in c.args.self.now) c.args.segment.now)
    ≡ first_count (told c.args.aside c.args.self.now) (upward c.levels.level.depth (path_in c.args.self.now) c.args.segment.now)
same_here c = c.levels.invariant.1.same
    ∙ further c.args.aside c.args.self.now c.args.segment.now c.levels.invariant.0 c.levels.level.depth c.levels.invariant.1.next.next

pub returns-in-Some : goal.returns-in-Some
returns-in-Some c =
    let s = c.args.self.now in
    let b = (goal.at.returns-in-Some c).After-aside_at in
    sym (same_here b ∙ here_counts (names_of s) set.empty (told c.args.aside s) (path_in s) c.args.segment.now c.levels.level.depth
    c.in-Some.count (sym (here b) ∙ c.in-Some.is))

pub returns-then-level-eq0 : goal.returns-then-level-eq0
returns-then-level-eq0 c =
    let s = c.args.self.now in
    let segment = c.args.segment.now in
    let d = c.levels.level.depth in
    sym (same_here (goal.at.returns-then-level-eq0 c).After-aside_at
    ∙ ap (λ d. first_count (told c.args.aside s) (upward d (path_in s) segment)) {x = d} {y = 0} c.if-level-eq0.true
    ∙ root_counts (names_of s) set.empty (told c.args.aside s) (path_in s) segment
    (ap (λ d. told c.args.aside s (take d (path_in s) ++ segment)) {x = 0} {y = d} (sym c.if-level-eq0.true)
    ∙ none_here (goal.at.returns-then-level-eq0 c).In_default))

pub levels-preserved : goal.levels-preserved
levels-preserved c =
    let s = c.args.self.now in
    let d = c.levels.level.depth in (
      d - 1,
      record {
        within = omega (arith, c.levels.invariant.1.next.level.within);
        next = c.with_above-level.ensures;
        same = same_here (goal.at.levels-preserved c).After-aside_at ∙ above_counts (names_of s) set.empty (told c.args.aside s) (path_in s)
            c.args.segment.now d (none_here (goal.at.levels-preserved c).In_default) (omega (arith, c.if-level-eq0.false));
      },
    )
