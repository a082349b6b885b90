use mathlib.Core.Bool.{true≢false}
use Rattle.std.proofs.Common.{◌≡◌, ◌+◌, length, List, ◌++◌, ◌∷◌, [], None, is_some, not, true, false, sym, subst}
use Rattle.std.proofs.Common.{ap, ◌∙◌, arith}
use Rattle.std.specs.FinMap as map
use Rattle.aml_namespace.specs.Namespace.{Entry, declares, declared_at}
use Rattle.aml_space.specs.Nodes.{known_by, known_in, path_by}
use Rattle.aml_namespace.specs.Known.{Known, StandsFor, Grows, once, with_declaration, is_declared}
use Rattle.aml_namespace.proofs.Numbers.{grows_not}
use Rattle.aml_namespace.proofs.Stands.{stands_grown, stands_declared, again_first, none_from_test, declared_listed}
use Rattle.aml_space.proofs.Index.{known_taken, one_declared}
use Rattle.aml_space.proofs.Keeping.{still_space, known_again, on_err}
use Rattle.aml_space.specs.Below.{path_below}
use Rattle.aml_space.proofs.Reaching.{reach_path}
use Rattle.aml_space.proofs.spaces.Space.put_once.Goals as goal
use Rattle.aml_space.proofs.spaces.Space.put_once.Goals.{After-is_taken, After-declare_first, In_ok-declare_first}
use Rattle.aml_namespace.specs.Kinds.{kind_in, IsAmong}
use Rattle.aml_space.proofs.Targets.{paths_long}

taken : (c : After-is_taken) → c.is_taken.result ≡ is_declared c.args.self.now (path_below c.args.self.now.paths c.args.path.now)
taken c = known_taken _ _ _ _ _ c.args.self.now c.is_taken.ensures.taken c.as_slice-2.ensures.value
    (ap (λ ns. path_by ns c.reach_below-reach.result) c.as_slice-2.ensures.value ∙ reach_path _ _ c.args.self.now c.reach_below-reach.result c.args.path.now c.as_slice.ensures.value c.self.view_is c.reach_below-reach.ensures.path) c.self.invariant.index.shape
    (ap (λ k. k.declarations) c.self.view_is)

not_declared : (c : After-is_taken) → c.is_taken.result ≡ false
    → map.get c.args.self.now.declarations (path_below c.args.self.now.paths c.args.path.now) ≡ None
not_declared c free = none_from_test _ (sym (taken c) ∙ free)

never : (c : After-is_taken) → c.is_taken.result ≡ false → {A : Type 0}
    → is_declared c.args.self.now (path_below c.args.self.now.paths c.args.path.now) ≡ true → A
never c free there = absurd (true≢false (sym there ∙ sym (taken c) ∙ free))

put_here : (c : In_ok-declare_first)
    → Grows (with_declaration c.args.self.now (path_below c.args.self.now.paths c.args.path.now) (once (kind_in c.args.self.now.paths c.args.kind) c.args.surely))
    (known_in c.declare_first.new.nodes.items)
put_here c =
    let new = known_in c.declare_first.new.nodes.items in
    subst (λ p. Grows (with_declaration c.args.self.now p (once (kind_in c.args.self.now.paths c.args.kind) c.args.surely)) new)
    (reach_path _ _ c.args.self.now c.reach_below-reach.result c.args.path.now c.as_slice.ensures.value c.self.view_is c.reach_below-reach.ensures.path)
    (subst (λ (k : Known). Grows (with_declaration k (path_by c.self.inside.nodes.items c.reach_below-reach.result) (once (kind_in k.paths c.args.kind) c.args.surely)) new) c.self.view_is (known_again c.self.inside.nodes.items c.declare_first.new.nodes.items _
    c.self.invariant.index c.declare_first.ensures.index c.declare_first.ensures.kept c.in_ok-declare_first.ensures.ok))

pub invariant_of-self : goal.invariant_of-self
invariant_of-self c = still_space c.self.inside.nodes.items c.declare_first.new.nodes.items c.self.inside.rows _
    c.self.inside.ways c.declare_first.ensures.index c.declare_first.ensures.kept
    (c.self.invariant.rows ∙ ap (λ (k : Known). length (map.entries k.declarations)) (sym c.in_err-declare_first.ensures.err)) c.self.invariant

pub invariant_of-self-2 : goal.invariant_of-self-2
invariant_of-self-2 c =
    let before : c.self.inside.rows ≡ length (map.entries c.args.self.now.declarations) = c.self.invariant.rows
    ∙ ap (λ (k : Known). length (map.entries k.declarations)) c.self.view_is in
    let after : length (map.entries (known_by c.declare_first.new.nodes.items).declarations) ≡ length (map.entries c.args.self.now.declarations) + 1 =
    ap (λ (k : Known). length (map.entries k.declarations)) (put_here (goal.at.invariant_of-self-2 c).In_ok-declare_first).1
    ∙ one_declared c.args.self.now (path_below c.args.self.now.paths c.args.path.now) (once (kind_in c.args.self.now.paths c.args.kind) c.args.surely)
    (not_declared (goal.at.invariant_of-self-2 c).After-is_taken c.if-is_taken.false) in
    still_space c.self.inside.nodes.items c.declare_first.new.nodes.items c.self.inside.rows _
    c.self.inside.ways c.declare_first.ensures.index c.declare_first.ensures.kept
    (omega (arith, before, after)) c.self.invariant

pub returns-clause-stands : goal.returns-clause-stands
returns-clause-stands c = λ es body stands. stands_grown _ _ _ (put_here (goal.at.returns-clause-stands c).In_ok-declare_first)
    (subst (λ k. StandsFor k (es ++ declares (path_below c.args.self.now.paths c.args.path.now) (kind_in c.args.self.now.paths c.args.kind) body c.args.surely ∷ []))
    (again_first c.args.self.now (path_below c.args.self.now.paths c.args.path.now) (kind_in c.args.self.now.paths c.args.kind) c.args.surely (not_declared (goal.at.returns-clause-stands c).After-is_taken c.if-is_taken.false))
    (stands_declared c.args.self.now es stands (path_below c.args.self.now.paths c.args.path.now) (kind_in c.args.self.now.paths c.args.kind) body c.args.surely))

listed : (c : After-is_taken) (es : List Entry) → StandsFor c.args.self.now es
    → is_some (declared_at es (path_below c.args.self.now.paths c.args.path.now)) ≡ c.is_taken.result
listed c es stands = sym (declared_listed c.args.self.now es (path_below c.args.self.now.paths c.args.path.now) c.is_taken.result stands (taken c))

pub returns-then-is_taken-clause-put : goal.returns-then-is_taken-clause-put
returns-then-is_taken-clause-put c = ap not (sym c.if-is_taken.true ∙ taken (goal.at.returns-then-is_taken-clause-put c).After-is_taken)

pub returns-clause-put : goal.returns-clause-put
returns-clause-put c = ap not (sym c.if-is_taken.false ∙ taken (goal.at.returns-clause-put c).After-is_taken)

pub returns-clause-known : goal.returns-clause-known
returns-clause-known c = put_here (goal.at.returns-clause-known c).In_ok-declare_first

pub returns-then-self-clause-taken : goal.returns-then-self-clause-taken
returns-then-self-clause-taken c = never (goal.at.returns-then-self-clause-taken c).After-is_taken c.if-is_taken.false

pub returns-in_err-declare_first-clause-taken : goal.returns-in_err-declare_first-clause-taken
returns-in_err-declare_first-clause-taken c = never (goal.at.returns-in_err-declare_first-clause-taken c).After-is_taken c.if-is_taken.false

pub returns-clause-taken : goal.returns-clause-taken
returns-clause-taken c = never (goal.at.returns-clause-taken c).After-is_taken c.if-is_taken.false

pub returns-then-is_taken-clause-listed : goal.returns-then-is_taken-clause-listed
returns-then-is_taken-clause-listed c = λ es s. ap not (sym c.if-is_taken.true ∙ sym (listed (goal.at.returns-then-is_taken-clause-listed c).After-is_taken es s))

pub returns-clause-listed : goal.returns-clause-listed
returns-clause-listed c = λ es s. ap not (sym c.if-is_taken.false ∙ sym (listed (goal.at.returns-clause-listed c).After-is_taken es s))

pub returns-in_err-declare_first-clause-err : goal.returns-in_err-declare_first-clause-err
returns-in_err-declare_first-clause-err c = on_err c.from_residual.result
    (subst (λ k. Grows k (known_in c.declare_first.new.nodes.items)) c.self.view_is
    (known_again c.self.inside.nodes.items c.declare_first.new.nodes.items _
    c.self.invariant.index c.declare_first.ensures.index c.declare_first.ensures.kept c.in_err-declare_first.ensures.err))

pub returns-then-is_taken-clause-known : goal.returns-then-is_taken-clause-known
returns-then-is_taken-clause-known c = grows_not _

pub returns-then-self-clause-err : goal.returns-then-self-clause-err
returns-then-self-clause-err c = grows_not _

pub declare_first-requires-clause-target : goal.declare_first-requires-clause-target
declare_first-requires-clause-target c = subst (λ n. IsAmong n c.args.kind)
    (ap (λ (k : Known). length k.paths) (sym c.self.view_is) ∙ paths_long c.self.inside.nodes.items) c.requires.target
