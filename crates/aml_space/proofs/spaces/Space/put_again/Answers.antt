use Rattle.std.proofs.Common.{◌≡◌, false, ◌+◌, length, None, sym, subst, ap, ◌∙◌, arith, Some}
use Rattle.std.specs.FinMap as map
use Rattle.aml_space.specs.Nodes.{known_by, paths_in, known_in, kids_of, path_of, path_by}
use Rattle.aml_namespace.specs.Known.{Known, Grows, once, with_declaration, with_again}
use Rattle.aml_namespace.proofs.Numbers.{grows_not}
use Rattle.aml_namespace.proofs.Stands.{stands_grown, stands_declared, again_first, none_from_test}
use Rattle.aml_space.proofs.Index.{known_taken, one_declared}
use Rattle.aml_space.proofs.Keeping.{still_space, known_again, on_err, ok_then, err_then}
use Rattle.aml_space.specs.Below.{path_below}
use Rattle.aml_space.proofs.Reaching.{reach_path}
use Rattle.aml_children.specs.Numbered.{walk}
use Rattle.aml_space.proofs.Named.{path_led}
use Rattle.aml_space.proofs.spaces.Space.put_again.Goals as goal
use Rattle.aml_space.proofs.spaces.Space.put_again.Goals.{In_ok-declare_first, After-declare_again, After-is_taken}
use Rattle.aml_namespace.specs.Kinds.{kind_in, IsAmong}
use Rattle.aml_space.proofs.Targets.{paths_long}

not_declared : (c : After-is_taken) → c.is_taken.result ≡ false
    → map.get c.args.self.now.declarations (path_below c.args.self.now.paths c.args.path.now) ≡ None
not_declared c free = none_from_test _ (sym (known_taken _ _ _ _ _ c.args.self.now c.is_taken.ensures.taken c.as_slice-2.ensures.value
    (ap (λ ns. path_by ns c.reach_below-reach.result) c.as_slice-2.ensures.value ∙ reach_path _ _ c.args.self.now c.reach_below-reach.result c.args.path.now c.as_slice.ensures.value c.self.view_is c.reach_below-reach.ensures.path) c.self.invariant.index.shape
    (ap (λ k. k.declarations) c.self.view_is)) ∙ free)

put_here : (c : In_ok-declare_first) → map.get c.args.self.now.declarations (path_below c.args.self.now.paths c.args.path.now) ≡ None
    → Grows (with_again c.args.self.now (path_below c.args.self.now.paths c.args.path.now) (kind_in c.args.self.now.paths c.args.kind) c.args.sure)
    (known_in c.declare_first.new.nodes.items)
put_here c none =
    let new = known_in c.declare_first.new.nodes.items in
    subst (λ k. Grows k new) (sym (again_first c.args.self.now (path_below c.args.self.now.paths c.args.path.now) (kind_in c.args.self.now.paths c.args.kind) c.args.sure none))
    (subst (λ p. Grows (with_declaration c.args.self.now p (once (kind_in c.args.self.now.paths c.args.kind) c.args.sure)) new)
    (reach_path _ _ c.args.self.now c.reach_below-reach.result c.args.path.now c.as_slice.ensures.value c.self.view_is c.reach_below-reach.ensures.path)
    (subst (λ (k : Known). Grows (with_declaration k (path_by c.self.inside.nodes.items c.reach_below-reach.result) (once (kind_in k.paths c.args.kind) c.args.sure)) new) c.self.view_is
    (known_again c.self.inside.nodes.items c.declare_first.new.nodes.items _
    c.self.invariant.index c.declare_first.ensures.index c.declare_first.ensures.kept c.in_ok-declare_first.ensures.ok)))

-- where it is declared already the path leads to the node
taken_here : (c : After-declare_again) → path_of c.self.inside.nodes.items c.reach_below-reach.result.node ≡ (path_below c.args.self.now.paths c.args.path.now)
taken_here c =
    let ns = c.self.inside.nodes.items in
    let r = c.reach_below-reach.result in
    path_led ns c.self.invariant.index (path_by ns r) r.node
    (subst (λ ns. walk (kids_of ns) 0 (path_by ns r) ≡ Some r.node) c.as_slice-2.ensures.value (c.is_taken.ensures.led c.if-is_taken.true))
    ∙ reach_path _ _ c.args.self.now c.reach_below-reach.result c.args.path.now c.as_slice.ensures.value c.self.view_is c.reach_below-reach.ensures.path

put_there : (c : After-declare_again) → known_by c.declare_again.new.nodes.items
    ≡ with_again (known_by c.self.inside.nodes.items) (path_of c.self.inside.nodes.items c.reach_below-reach.result.node) (kind_in (paths_in c.self.inside.nodes.items) c.args.kind) c.args.sure
    → Grows (with_again c.args.self.now (path_below c.args.self.now.paths c.args.path.now) (kind_in c.args.self.now.paths c.args.kind) c.args.sure)
    (known_in c.declare_again.new.nodes.items)
put_there c again =
    let new = known_in c.declare_again.new.nodes.items in
    subst (λ p. Grows (with_again c.args.self.now p (kind_in c.args.self.now.paths c.args.kind) c.args.sure) new) (taken_here c)
    (subst (λ (k : Known). Grows (with_again k (path_of c.self.inside.nodes.items c.reach_below-reach.result.node) (kind_in k.paths c.args.kind) c.args.sure) new)
    c.self.view_is (known_again c.self.inside.nodes.items c.declare_again.new.nodes.items _
    c.self.invariant.index c.declare_again.ensures.index c.declare_again.ensures.kept again))

pub invariant_of-self-in_err-declare_first : goal.invariant_of-self-in_err-declare_first
invariant_of-self-in_err-declare_first c = still_space c.self.inside.nodes.items c.declare_first.new.nodes.items c.self.inside.rows _
    c.self.inside.ways c.declare_first.ensures.index c.declare_first.ensures.kept
    (c.self.invariant.rows ∙ ap (λ (k : Known). length (map.entries k.declarations)) (sym c.in_err-declare_first.ensures.err)) c.self.invariant

pub invariant_of-self : goal.invariant_of-self
invariant_of-self c = still_space c.self.inside.nodes.items c.declare_again.new.nodes.items c.self.inside.rows _
    c.self.inside.ways c.declare_again.ensures.index c.declare_again.ensures.kept
    (c.self.invariant.rows ∙ sym c.declare_again.ensures.rows) c.self.invariant

pub invariant_of-self-2 : goal.invariant_of-self-2
invariant_of-self-2 c =
    let none = not_declared (goal.at.invariant_of-self-2 c).After-is_taken c.if-is_taken.false in
    let before : c.self.inside.rows ≡ length (map.entries c.args.self.now.declarations) = c.self.invariant.rows
    ∙ ap (λ (k : Known). length (map.entries k.declarations)) c.self.view_is in
    let after : length (map.entries (known_by c.declare_first.new.nodes.items).declarations) ≡ length (map.entries c.args.self.now.declarations) + 1 =
    ap (λ (k : Known). length (map.entries k.declarations))
    (put_here (goal.at.invariant_of-self-2 c).In_ok-declare_first none).1
    ∙ ap (λ (k : Known). length (map.entries k.declarations)) (again_first c.args.self.now (path_below c.args.self.now.paths c.args.path.now) (kind_in c.args.self.now.paths c.args.kind) c.args.sure none)
    ∙ one_declared c.args.self.now (path_below c.args.self.now.paths c.args.path.now) (once (kind_in c.args.self.now.paths c.args.kind) c.args.sure) none in
    still_space c.self.inside.nodes.items c.declare_first.new.nodes.items c.self.inside.rows _
    c.self.inside.ways c.declare_first.ensures.index c.declare_first.ensures.kept
    (omega (arith, before, after)) c.self.invariant

pub returns-clause-ok : goal.returns-clause-ok
returns-clause-ok c = put_here (goal.at.returns-clause-ok c).In_ok-declare_first (not_declared (goal.at.returns-clause-ok c).After-is_taken c.if-is_taken.false)

pub returns-clause-stands : goal.returns-clause-stands
returns-clause-stands c = λ es body stands. stands_grown _ _ _
    (put_here (goal.at.returns-clause-stands c).In_ok-declare_first (not_declared (goal.at.returns-clause-stands c).After-is_taken c.if-is_taken.false))
    (stands_declared c.args.self.now es stands (path_below c.args.self.now.paths c.args.path.now) (kind_in c.args.self.now.paths c.args.kind) body c.args.sure)

pub returns-then-is_taken-clause-stands : goal.returns-then-is_taken-clause-stands
returns-then-is_taken-clause-stands c = λ es body stands. ok_then c.declare_again.result
    (λ ok. stands_grown _ _ _ (put_there (goal.at.returns-then-is_taken-clause-stands c).After-declare_again ok)
    (stands_declared c.args.self.now es stands (path_below c.args.self.now.paths c.args.path.now) (kind_in c.args.self.now.paths c.args.kind) body c.args.sure)) c.declare_again.ensures.ok

pub returns-in_err-declare_first-clause-err : goal.returns-in_err-declare_first-clause-err
returns-in_err-declare_first-clause-err c = on_err c.from_residual.result
    (subst (λ k. Grows k (known_in c.declare_first.new.nodes.items)) c.self.view_is
    (known_again c.self.inside.nodes.items c.declare_first.new.nodes.items _
    c.self.invariant.index c.declare_first.ensures.index c.declare_first.ensures.kept c.in_err-declare_first.ensures.err))

pub returns-then-self-clause-err : goal.returns-then-self-clause-err
returns-then-self-clause-err c = grows_not _

pub returns-then-is_taken-clause-ok : goal.returns-then-is_taken-clause-ok
returns-then-is_taken-clause-ok c = ok_then c.declare_again.result
    (put_there (goal.at.returns-then-is_taken-clause-ok c).After-declare_again) c.declare_again.ensures.ok

pub returns-then-is_taken-clause-err : goal.returns-then-is_taken-clause-err
returns-then-is_taken-clause-err c = err_then c.declare_again.result
    (λ err. subst (λ k. Grows k (known_in c.declare_again.new.nodes.items)) c.self.view_is
    (known_again c.self.inside.nodes.items c.declare_again.new.nodes.items _
    c.self.invariant.index c.declare_again.ensures.index c.declare_again.ensures.kept err)) c.declare_again.ensures.err

pub declare_first-requires-clause-target : goal.declare_first-requires-clause-target
declare_first-requires-clause-target c = subst (λ n. IsAmong n c.args.kind)
    (ap (λ (k : Known). length k.paths) (sym c.self.view_is) ∙ paths_long c.self.inside.nodes.items) c.requires.target

pub declare_again-requires-clause-target : goal.declare_again-requires-clause-target
declare_again-requires-clause-target c = subst (λ n. IsAmong n c.args.kind)
    (ap (λ (k : Known). length k.paths) (sym c.self.view_is) ∙ paths_long c.self.inside.nodes.items) c.requires.target
