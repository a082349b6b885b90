use Rattle.std.proofs.Common.{◌≡◌, length, Some, sym, subst, ap, ◌∙◌}
use Rattle.std.specs.FinMap as map
use Rattle.aml_namespace.specs.Known.{Known, Grows, with_given}
use Rattle.aml_children.specs.Numbered.{walk}
use Rattle.aml_space.specs.Nodes.{kids_of, known_by, path_by, IsIndex, IsKept, known_in}
use Rattle.aml_space.proofs.Keeping.{kept_on, known_again, still_space, content_kept}
use Rattle.aml_namespace.proofs.Stands.{stands_grown, stands_given}
use Rattle.aml_space.proofs.Index.{put_given}
use Rattle.aml_space.proofs.spaces.Space.given.Goals as goal
use Rattle.aml_space.proofs.spaces.Space.given.Goals.{After-set_given}

-- the nodes are an index still, and know the count
put : (c : After-set_given) → IsIndex c.set_given.new.nodes.items
    × (known_by c.set_given.new.nodes.items ≡ with_given (known_by c.self.inside.nodes.items) c.args.path.now c.args.count)
put c =
    let put = put_given c.extend.new.nodes.items c.set_given.new.nodes.items c.args.path.now c.in_ok-at.at c.extend.ensures.index
    (subst (λ p. walk (kids_of c.extend.new.nodes.items) 0 p ≡ Some c.in_ok-at.at)
    (subst (λ ns. path_by ns c.reach_from-reach.result ≡ c.segs.result.now) c.as_slice.ensures.value c.reach_from-reach.ensures.path ∙ c.segs.ensures) c.in_ok-at.ensures.node) c.args.count c.set_given.ensures in
    (put.0, put.1 ∙ ap (λ k. with_given k c.args.path.now c.args.count) c.extend.ensures.known)

-- and paths lead where they led
kept : (c : After-set_given) → IsKept c.self.inside.nodes.items c.set_given.new.nodes.items
kept c = kept_on c.self.inside.nodes.items c.extend.new.nodes.items c.set_given.new.nodes.items c.extend.ensures.kept
    (content_kept c.extend.new.nodes.items c.set_given.new.nodes.items c.in_ok-at.at _ c.set_given.ensures)

put_here : (c : After-set_given)
    → Grows (with_given c.args.self.now c.args.path.now c.args.count) (known_in c.set_given.new.nodes.items)
put_here c = subst (λ k. Grows (with_given k c.args.path.now c.args.count) (known_in c.set_given.new.nodes.items)) c.self.view_is
    (known_again c.self.inside.nodes.items c.set_given.new.nodes.items _ c.self.invariant.index (put c).0 (kept c) (put c).1)

pub invariant_of-self-2 : goal.invariant_of-self-2
invariant_of-self-2 c =
    let b = (goal.at.invariant_of-self-2 c).After-set_given in
    still_space c.self.inside.nodes.items c.set_given.new.nodes.items c.self.inside.rows _
    c.self.inside.ways (put b).0 (kept b)
    (c.self.invariant.rows ∙ ap (λ (k : Known). length (map.entries k.declarations)) (sym (put b).1)) c.self.invariant

pub returns-clause-ok : goal.returns-clause-ok
returns-clause-ok c = put_here (goal.at.returns-clause-ok c).After-set_given

pub returns-clause-stands : goal.returns-clause-stands
returns-clause-stands c = λ es stands. stands_grown _ _ _ (returns-clause-ok c)
    (stands_given c.args.self.now es stands c.args.path.now c.args.count)

pub invariant_of-self : goal.invariant_of-self
invariant_of-self c = still_space c.self.inside.nodes.items c.extend.new.nodes.items c.self.inside.rows _
    c.self.inside.ways c.extend.ensures.index c.extend.ensures.kept
    (c.self.invariant.rows ∙ ap (λ (k : Known). length (map.entries k.declarations)) (sym c.extend.ensures.known)) c.self.invariant
