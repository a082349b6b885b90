use Rattle.std.proofs.Common.{◌≡◌, [], ◌∷◌, ◌++◌, take, Some, None, cond, sym, ap, ◌∙◌}
use Rattle.std.specs.Prelude.{flat_map}
use Rattle.std.specs.Option.{option_or}
use Rattle.aml_namespace.specs.Namespace.{first_count}
use Rattle.aml_namespace.specs.Known.{kinds_by}
use Rattle.aml_namespace.specs.Runs.{counts_by, counts_met}
use Rattle.aml_namespace.specs.Tallies.{counts_in}
use Rattle.aml_space.specs.Nodes.{known_by, paths_in}
use Rattle.aml_space.specs.Candidates.{path_in, names_of, outlook_at}
use Rattle.aml_space.specs.declared.walking.Aside.{Aside}
use Rattle.aml_namespace.proofs.Given.{only_count}
use Rattle.aml_namespace.proofs.Joined.{agreed_by, placed_met}
use Rattle.aml_namespace.proofs.Meeting.{first_in}
use Rattle.aml_namespace.proofs.Unmet.{agreed_unmet}
use Rattle.aml_space.proofs.Meaning.{declared_there, out_of_met, aside_of_met}
use Rattle.aml_space.proofs.scopes.Scope.count_placed.Goals as goal
use Rattle.aml_space.proofs.scopes.Scope.count_placed.Given.{Over}
use Rattle.aml_space.proofs.scopes.Scope.count_placed.Goals.{After-counts_met}

-- the counts that are met are those of the one path, which is no local
met : (g : Over) (c : After-counts_met g) → c.counts_met.result
    ≡ counts_in (counts_met (outlook_at c.args.self.now) (g.L.Seen.paths c.args.locals.now) ((take c.args.front (path_in c.args.self.now) ++ c.args.segs.now) ∷ []))
met g c =
    let s = c.args.self.now in
    let p = take c.args.front (path_in s) ++ c.args.segs.now in
    c.counts_met.ensures ∙ (λ i. counts_in (flat_map (counts_by (outlook_at s)) (kinds_by (declared_there s.nodes.now c.requires.scope.index.shape
    p c.node_below-node.result c.node_below-node.ensures.node i) (c.standing_below.ensures (paths_in s.nodes.now) i))))
    ∙ placed_met (outlook_at s) c.args.unknown_zero (g.L.Seen.paths c.args.locals.now) p
    (sym (c.in_ok-has_below.ensures (path_in s) c.requires.seen) ∙ c.if-branch.false)

-- what the user gives to the path
given : (g : Over) (c : After-counts_met g) → c.given_at-given.result
    ≡ first_count (names_of c.args.self.now).givens ((take c.args.front (path_in c.args.self.now) ++ c.args.segs.now) ∷ [])
given g c =
    let s = c.args.self.now in
    let p = take c.args.front (path_in s) ++ c.args.segs.now in
    c.given_at-given.ensures
    ∙ aside_of_met s.nodes.now c.requires.scope.index.shape p c.node_below-node.result c.node_below-node.ensures.node Aside.Given
    ∙ only_count (names_of s).givens p

pub returns-in-Nothing : goal.returns-in-Nothing
returns-in-Nothing g c =
    let s = c.args.self.now in
    let p = take c.args.front (path_in s) ++ c.args.segs.now in
    let b = (goal.at.returns-in-Nothing g c).After-counts_met in
    c.or.ensures
    ∙ (λ i. option_or ((c.out_at-outside.ensures ∙ out_of_met s.nodes.now c.requires.scope.index.shape p c.node_below-node.result
    c.node_below-node.ensures.node ∙ only_count (names_of s).outs p) i)
    ((c.count_unknown.ensures ∙ ap (λ o. option_or o (cond c.args.unknown_zero (Some 0) None)) (given g b)) i))
    ∙ sym (agreed_unmet (outlook_at s) (first_in (known_by s.nodes.now)) (g.L.Seen.paths c.args.locals.now) c.args.unknown_zero (p ∷ [])
    (sym c.in-Nothing.is ∙ met g b))

pub returns-in-One : goal.returns-in-One
returns-in-One g c =
    let s = c.args.self.now in
    sym (agreed_by (outlook_at s) c.args.unknown_zero (g.L.Seen.paths c.args.locals.now) ((take c.args.front (path_in s) ++ c.args.segs.now) ∷ []) _
    (sym c.in-One.is ∙ met g (goal.at.returns-in-One g c).After-counts_met))

pub returns-in-Several : goal.returns-in-Several
returns-in-Several g c =
    let s = c.args.self.now in
    let b = (goal.at.returns-in-Several g c).After-counts_met in
    given g b ∙ sym (agreed_by (outlook_at s) c.args.unknown_zero (g.L.Seen.paths c.args.locals.now)
    ((take c.args.front (path_in s) ++ c.args.segs.now) ∷ []) _ (sym c.in-Several.is ∙ met g b))

pub has_below-requires : goal.has_below-requires
has_below-requires g c = (path_in c.args.self.now, c.requires.seen, c.requires.within)
