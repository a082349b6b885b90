use Rattle.std.proofs.Common.{◌≡◌, ℕ, ◌-◌, ◌<◌, ◌≤◌, List, [], ◌∷◌, ◌++◌, cond, false, Option, Some, None, is_some}
use Rattle.std.proofs.Common.{take, get_or, length, refl, sym, ap, ◌∙◌, subst, arith, IfSome}
use Rattle.std.specs.Prelude.{◌||◌}
use Rattle.std.specs.Option.{option_or, option_and_then, option_map}
use Rattle.std.specs.FinSet as set
use Rattle.aml_names.specs.declared.segments.Seg.{Seg}
use Rattle.aml_names.specs.Paths.{PathSet}
use Rattle.aml_names.specs.Searching.{upward, nearest}
use Rattle.aml_space.specs.declared.scopes.Candidate.{Candidate}
use Rattle.aml_space.specs.declared.scopes.Scope.{Scope}
use Rattle.aml_namespace.specs.Namespace.{kind_at, first_of, decides, is_outside}
use Rattle.aml_space.specs.Nodes.{outs_of}
use Rattle.aml_space.specs.Candidates.{path_in, path_at, names_of, IsCandidate, IsNextOf}
use Rattle.aml_space.proofs.Asked.{none_met_below, of_sooner}
use Rattle.aml_namespace.proofs.Nearest.{near_within, passed_by, local_met, local_there, other_there, none_local}
use Rattle.aml_namespace.proofs.Nearest.{less_above, less_here}
use Rattle.aml_namespace.proofs.Upward.{rest_of, hit, step, skip}
use Rattle.aml_space.proofs.Meaning.{meant_path, outside_path, outside_depth, outside_still, ended}
use Rattle.aml_space.proofs.scopes.Scope.search.Goals as goal
use Rattle.aml_space.proofs.scopes.Scope.search.Given.{Over}
use Rattle.aml_space.proofs.scopes.Scope.search.Goals.{After-has_kind}

-- from a depth up to another, between which nothing stands
further : (s : Scope) (locals : PathSet) (segment : List Seg) → length segment ≡ 1 → (o : Option ℕ) →
    o ≡ nearest locals (path_in s) (get_or segment 0 (record { 0 = [] }) ∷ []) → (outside : Option ℕ) (d asked : ℕ) → d ≤ length (path_in s) →
    IsNextOf (names_of s) (path_in s) segment d asked → IfSome o (λ n. n ≤ asked) →
    rest_of (names_of s) locals (path_in s) segment outside (upward d (path_in s) segment)
    ≡ rest_of (names_of s) locals (path_in s) segment outside (upward asked (path_in s) segment)
further s locals segment one o is outside d asked within next above = skip (names_of s) locals (path_in s) segment asked d outside next.within
    (none_met_below (names_of s) (path_in s) segment one locals d asked within next (passed_by locals (path_in s) segment one o is d asked within above))

abbrev depth_of : Option Candidate → Option ℕ
depth_of o = option_map (λ (c : Candidate). c.depth) o

-- no local stands at the level or further down
none_here : (g : Over) (c : After-has_kind g) → IfSome c.in_ok-nearest.nearest (λ n. n < c.levels.level.depth)
none_here g c = none_local c.in_ok-nearest.nearest c.levels.level.depth c.nearer.result c.nearer.ensures c.in_default.not-Some

other : (g : Over) (c : After-has_kind g)
    → set.contains (g.L.Seen.paths c.args.locals.now) (take c.levels.level.depth (path_in c.args.self.now) ++ c.args.segment.now) ≡ false
other g c = other_there (g.L.Seen.paths c.args.locals.now) (path_in c.args.self.now) c.args.segment.now c.requires.one c.in_ok-nearest.nearest (c.in_ok-nearest.ensures (path_in c.args.self.now) c.requires.seen)
    c.levels.level.depth c.levels.invariant.1.next.level.within (none_here g c)

-- what is left to find, from the level on
same_here : (g : Over) (c : After-has_kind g)
    → first_of (names_of c.args.self.now) (g.L.Seen.paths c.args.locals.now) (upward (length (path_in c.args.self.now)) (path_in c.args.self.now) c.args.segment.now)
    ≡ rest_of (names_of c.args.self.now) (g.L.Seen.paths c.args.locals.now) (path_in c.args.self.now) c.args.segment.now (depth_of c.levels.outside)
    (upward c.levels.level.depth (path_in c.args.self.now) c.args.segment.now)
same_here g c =
    let inv = c.levels.invariant.1 in
    inv.same ∙ further c.args.self.now (g.L.Seen.paths c.args.locals.now) c.args.segment.now c.requires.one c.in_ok-nearest.nearest (c.in_ok-nearest.ensures (path_in c.args.self.now) c.requires.seen)
    (depth_of c.levels.outside) c.levels.invariant.0 c.levels.level.depth inv.within inv.next.next
    (less_here c.in_ok-nearest.nearest c.levels.level.depth (none_here g c))

-- the candidate at hand
abbrev here : (g : Over) → After-has_kind g → Candidate
here g c = record { depth = c.levels.level.depth; node = c.node_at.result; local = false }

is_here : (g : Over) (c : After-has_kind g)
    → IsCandidate c.args.self.now.nodes.now (g.L.Seen.paths c.args.locals.now) (path_in c.args.self.now) c.args.segment.now (here g c)
is_here g c = record { within = c.levels.invariant.1.next.level.within; node = λ same. c.node_at.ensures.node; local = sym (other g c) }

meant : (g : Over) (c : After-has_kind g)
    → c.has_kind.result ≡ decides (names_of c.args.self.now) (g.L.Seen.paths c.args.locals.now) (take c.levels.level.depth (path_in c.args.self.now) ++ c.args.segment.now)
meant g c = c.has_kind.ensures ∙ meant_path c.args.self.now.nodes.now (g.L.Seen.paths c.args.locals.now) (path_in c.args.self.now) c.args.segment.now
    c.requires.scope.index.shape (here g c) (is_here g c) refl

-- the first that an External names, up to here
first_here : (g : Over) (c : After-has_kind g) (o : Option Candidate)
    → o ≡ option_or c.levels.outside (cond (is_some (option_and_then (outs_of c.args.self.now.nodes.now) c.node_at.result)) (Some (here g c)) None)
    → o ≡ option_or c.levels.outside
    (cond (is_outside (names_of c.args.self.now) (take c.levels.level.depth (path_in c.args.self.now) ++ c.args.segment.now)) (Some (here g c)) None)
first_here g c o is = is ∙ ap (λ b. option_or c.levels.outside (cond b (Some (here g c)) None))
    (outside_path c.args.self.now.nodes.now (g.L.Seen.paths c.args.locals.now) (path_in c.args.self.now) c.args.segment.now c.requires.scope.index.shape (here g c)
    (is_here g c) refl)

outside_here : (g : Over) (c : After-has_kind g) (o : Option Candidate)
    → o ≡ option_or c.levels.outside (cond (is_some (option_and_then (outs_of c.args.self.now.nodes.now) c.node_at.result)) (Some (here g c)) None)
    → IfSome o (IsCandidate c.args.self.now.nodes.now (g.L.Seen.paths c.args.locals.now) (path_in c.args.self.now) c.args.segment.now)
outside_here g c o is =
    let candidate = IsCandidate c.args.self.now.nodes.now (g.L.Seen.paths c.args.locals.now) (path_in c.args.self.now) c.args.segment.now in
    subst (λ o. IfSome o candidate) (sym is) (outside_still candidate c.levels.outside _ (here g c) c.levels.invariant.1.outside (is_here g c))

pub levels-init : goal.levels-init
levels-init g c =
    let s = c.args.self.now in (
      length (path_in s),
      record {
        within = omega arith;
        above = near_within (g.L.Seen.paths c.args.locals.now) (path_in s) c.args.segment.now c.requires.one c.in_ok-nearest.nearest (c.in_ok-nearest.ensures (path_in c.args.self.now) c.requires.seen);
        next = c.requires.first;
        outside = tt;
        same = refl;
      },
    )

pub returns-in-Some-clause-found : goal.returns-in-Some-clause-found
returns-in-Some-clause-found g c =
    let s = c.args.self.now in
    let locals = (g.L.Seen.paths c.args.locals.now) in
    let from = c.levels.invariant.0 in
    let inv = c.levels.invariant.1 in
    let near = c.in_ok-nearest.nearest in
    let n = c.in-Some.local in
    let met = local_met near c.levels.level.depth n (sym c.nearer.ensures ∙ c.in-Some.is) in
    let within : n ≤ from = subst (λ o. IfSome o (λ n. n ≤ from)) met.0 inv.above in
    let there = local_there locals (path_in s) c.args.segment.now c.requires.one near (c.in_ok-nearest.ensures (path_in c.args.self.now) c.requires.seen) n met.0 in
    sym (inv.same ∙ further s locals c.args.segment.now c.requires.one near (c.in_ok-nearest.ensures (path_in c.args.self.now) c.requires.seen) (depth_of c.levels.outside) from n inv.within
    (of_sooner (names_of s) (path_in s) c.args.segment.now from c.levels.level.depth n met.1 within inv.next.next) (subst (λ o. IfSome o (λ m. m ≤ n)) (sym met.0) (omega arith))
    ∙ hit (names_of s) locals (path_in s) c.args.segment.now n _ _ refl
    (ap (λ b. b || is_some (kind_at (names_of s) (take n (path_in s) ++ c.args.segment.now))) there))

pub returns-in-Some-clause-met : goal.returns-in-Some-clause-met
returns-in-Some-clause-met g c =
    let s = c.args.self.now in
    let near = c.in_ok-nearest.nearest in
    let n = c.in-Some.local in
    let met = local_met near c.levels.level.depth n (sym c.nearer.ensures ∙ c.in-Some.is) in
    record {
      within = subst (λ o. IfSome o (λ m. m ≤ length (path_in s))) met.0
          (near_within (g.L.Seen.paths c.args.locals.now) (path_in s) c.args.segment.now c.requires.one near (c.in_ok-nearest.ensures (path_in c.args.self.now) c.requires.seen));
      node = λ same. absurd (Rattle.std.proofs.lemmas.Bool.false≢true (sym same));
      local = sym (local_there (g.L.Seen.paths c.args.locals.now) (path_in s) c.args.segment.now c.requires.one near (c.in_ok-nearest.ensures (path_in c.args.self.now) c.requires.seen) n met.0);
    }

pub returns-then-has_kind-clause-found : goal.returns-then-has_kind-clause-found
returns-then-has_kind-clause-found g c =
    let s = c.args.self.now in
    let b = (goal.at.returns-then-has_kind-clause-found g c).After-has_kind in
    sym (same_here g b ∙ hit (names_of s) (g.L.Seen.paths c.args.locals.now) (path_in s) c.args.segment.now c.levels.level.depth _ _ refl (sym (meant g b) ∙ c.if-has_kind.true))

pub returns-then-has_kind-clause-met : goal.returns-then-has_kind-clause-met
returns-then-has_kind-clause-met g c = is_here g (goal.at.returns-then-has_kind-clause-met g c).After-has_kind

pub returns-then-level-eq0-clause-found : goal.returns-then-level-eq0-clause-found
returns-then-level-eq0-clause-found g c =
    let s = c.args.self.now in
    let b = (goal.at.returns-then-level-eq0-clause-found g c).After-has_kind in
    ap (option_map (path_at (path_in s) c.args.segment.now)) (first_here g b _ c.first_outside-outside.ensures)
    ∙ sym (same_here g b ∙ ended (names_of s) (g.L.Seen.paths c.args.locals.now) (path_in s) c.args.segment.now c.levels.outside c.levels.level.depth
    c.node_at.result false c.if-level-eq0.true (sym (meant g b) ∙ c.if-has_kind.false))

pub returns-then-level-eq0-clause-met : goal.returns-then-level-eq0-clause-met
returns-then-level-eq0-clause-met g c =
    outside_here g (goal.at.returns-then-level-eq0-clause-met g c).After-has_kind c.first_outside-outside.result c.first_outside-outside.ensures

pub levels-preserved : goal.levels-preserved
levels-preserved g c =
    let s = c.args.self.now in
    let locals = (g.L.Seen.paths c.args.locals.now) in
    let segment = c.args.segment.now in
    let d = c.levels.level.depth in
    let b = (goal.at.levels-preserved g c).After-has_kind in
    let positive : 0 < d = omega (arith, c.if-level-eq0.false) in (
      d - 1,
      record {
        within = omega (arith, c.levels.invariant.1.next.level.within);
        above = less_above c.in_ok-nearest.nearest d positive (none_here g b);
        next = c.with_above-level.ensures;
        outside = outside_here g b c.first_outside-outside.result c.first_outside-outside.ensures;
        same = same_here g b ∙ step (names_of s) locals (path_in s) segment d (take d (path_in s) ++ segment) (depth_of c.levels.outside) refl
            (sym (meant g b) ∙ c.if-has_kind.false) positive
            ∙ ap (λ o. rest_of (names_of s) locals (path_in s) segment o (upward (d - 1) (path_in s) segment))
            (sym (ap depth_of (first_here g b _ c.first_outside-outside.ensures) ∙ outside_depth c.levels.outside _ (here g b)));
      },
    )
