use Rattle.std.proofs.Common.{length, sym, ap, subst, ◌∙◌, ◌≡◌, Some}
use Rattle.std.specs.FinMap as map
use Rattle.aml_namespace.specs.Known.{Known, Grows}
use Rattle.std.specs.Prelude.{slice_get}
use Rattle.aml_space.specs.Nodes.{paths_in, known_in, kids_of}
use Rattle.aml_space.specs.Spaces.{IsSpace}
use Rattle.aml_space.proofs.Keeping.{still_space, known_again, numbered}
use Rattle.aml_space.specs.Below.{path_below}
use Rattle.aml_space.proofs.Reaching.{reach_path}
use Rattle.aml_children.specs.Numbered.{walk}
use Rattle.aml_space.proofs.spaces.Space.number.Goals as goal
use Rattle.aml_space.proofs.spaces.Space.number.Goals.{After-extend}

grown : (c : After-extend) → Grows c.args.self.now (known_in c.extend.new.nodes.items)
grown c = subst (λ k. Grows k (known_in c.extend.new.nodes.items)) c.self.view_is
    (known_again c.self.inside.nodes.items c.extend.new.nodes.items _ c.self.invariant.index c.extend.ensures.index
    c.extend.ensures.kept c.extend.ensures.known)

still : (c : After-extend) → IsSpace c.extend.new.nodes.items c.self.inside.rows
    c.self.inside.ways
still c = still_space c.self.inside.nodes.items c.extend.new.nodes.items c.self.inside.rows _
    c.self.inside.ways c.extend.ensures.index c.extend.ensures.kept
    (c.self.invariant.rows ∙ ap (λ (k : Known). length (map.entries k.declarations)) (sym c.extend.ensures.known)) c.self.invariant

pub invariant_of-self : goal.invariant_of-self
invariant_of-self c = still (goal.at.invariant_of-self c).After-extend

pub invariant_of-self-2 : goal.invariant_of-self-2
invariant_of-self-2 c = still (goal.at.invariant_of-self-2 c).After-extend

pub returns-clause-grows : goal.returns-clause-grows
returns-clause-grows c = grown (goal.at.returns-clause-grows c).After-extend

pub returns-clause-ok : goal.returns-clause-ok
returns-clause-ok c = ap (slice_get (paths_in c.extend.new.nodes.items)) c.new.ensures
    ∙ numbered c.extend.new.nodes.items c.extend.ensures.index (path_below c.args.self.now.paths c.args.path.now) c.in_ok-node.node
    (subst (λ p. walk (kids_of c.extend.new.nodes.items) 0 p ≡ Some c.in_ok-node.node)
    (reach_path _ _ c.args.self.now c.reach_made-reach.result c.args.path.now c.as_slice.ensures.value c.self.view_is c.reach_made-reach.ensures.path) c.in_ok-node.ensures.node)
