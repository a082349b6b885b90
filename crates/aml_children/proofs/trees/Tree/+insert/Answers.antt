use Rattle.std.proofs.Common.{◌≡◌, List, ◌∷◌, ◌++◌, Option, Some, None, sym, ap, ◌∙◌, arith, rules}
use Rattle.std.specs.Global.{Box}
use Rattle.aml_children.specs.declared.children.Child.{Child}
use Rattle.aml_children.specs.Trees.{list_and_height, Rebalances}
use Rattle.aml_children.specs.declared.trees.Fork.{Fork}
use Rattle.aml_children.proofs.Forks.{height_is, balanced_is, left_rises, right_rises, left_shorter, right_shorter}
use Rattle.aml_children.proofs.Forks.{at_left, at_right, at_middle, put_at_left, put_at_right}
use Rattle.aml_children.proofs.trees.Tree.+insert.Goals as goal
use Rattle.aml_children.proofs.trees.Tree.+insert.Goals.{in-Less+in_ok-insert-in-Less+else-height-before, in-Equal}
use Rattle.aml_children.proofs.trees.Tree.+insert.Goals.{in-Greater+in_ok-insert-in-Greater+else-height-before-2}

same_list : (old new : Option (Box Fork)) → Rebalances old new → (list_and_height new).0 ≡ (list_and_height old).0
same_list None new is = ap (λ o. (list_and_height o).0) is
same_list (Some b) None is = absurd is
same_list (Some b) (Some m) is = is.list

pub insert-requires : goal.insert-requires
insert-requires t c =
    let same = c.deref_mut.ensures.value in
    let shorter = left_shorter _ _ _ c.self.view_is c.in-Some.is _ same in
    let high = height_is _ _ _ c.self.view_is c.in-Some.is _ same in
    let balanced = balanced_is _ _ _ c.self.view_is c.in-Some.is _ same c.self.invariant in (
      search rules,
      (
        omega (arith, high, balanced.height, c.requires.room),
        (
          left_rises _ _ _ c.self.view_is c.in-Some.is _ same c.requires.rise,
          sym (at_left _ _ _ c.self.view_is c.in-Some.is _ same c.requires.rise c.args.child.seg _ c.deref.ensures (sym c.cmp.ensures ∙ c.in-Less.is))
              ∙ c.requires.absent,
        ),
      ),
    )

pub insert-requires-in-Greater : goal.insert-requires-in-Greater
insert-requires-in-Greater t c =
    let same = c.deref_mut-in-Greater.ensures.value in
    let shorter = right_shorter _ _ _ c.self.view_is c.in-Some.is _ same in
    let high = height_is _ _ _ c.self.view_is c.in-Some.is _ same in
    let balanced = balanced_is _ _ _ c.self.view_is c.in-Some.is _ same c.self.invariant in (
      search rules,
      (
        omega (arith, high, balanced.height, c.requires.room),
        (
          right_rises _ _ _ c.self.view_is c.in-Some.is _ same c.requires.rise,
          sym (at_right _ _ _ c.self.view_is c.in-Some.is _ same c.requires.rise c.args.child.seg _ c.deref.ensures (sym c.cmp.ensures ∙ c.in-Greater.is))
              ∙ c.requires.absent,
        ),
      ),
    )

pub rebalance-requires : goal.rebalance-requires
rebalance-requires t c = elim c.match-cmp.branch [
  | in-Less+in_ok-insert-in-Less+else-height-before w ↦
      let high = height_is _ _ _ c.self.view_is c.in-Some.is _ w.deref_mut.ensures.value in
      let balanced = balanced_is _ _ _ c.self.view_is c.in-Some.is _ w.deref_mut.ensures.value c.self.invariant in
      let side = w.in_ok-insert-in-Less.ensures in
      rw w.self-inside-is (record {
        room = omega (arith, high, balanced.height, c.requires.room, side.at_most_one_higher, side.not_lower);
        even = (omega (arith, balanced.even.0, side.at_most_one_higher), omega (arith, balanced.even.1, side.not_lower));
      })
  | in-Equal w ↦
      let found = at_middle _ _ _ c.self.view_is c.in-Some.is _ c.deref.ensures c.requires.rise c.args.child.seg _ c.deref.ensures
      (sym c.cmp.ensures ∙ w.in-Equal.is) in
      let none = c.requires.absent in
      absurd cc
  | in-Greater+in_ok-insert-in-Greater+else-height-before-2 w ↦
      let high = height_is _ _ _ c.self.view_is c.in-Some.is _ w.deref_mut-in-Greater.ensures.value in
      let balanced = balanced_is _ _ _ c.self.view_is c.in-Some.is _ w.deref_mut-in-Greater.ensures.value c.self.invariant in
      let side = w.in_ok-insert-in-Greater.ensures in
      rw w.self-inside-is (record {
        room = omega (arith, high, balanced.height, c.requires.room, side.at_most_one_higher, side.not_lower);
        even = (omega (arith, balanced.even.0, side.not_lower), omega (arith, balanced.even.1, side.at_most_one_higher));
      })
]

pub returns-clause-ok : goal.returns-clause-ok
returns-clause-ok t c =
    same_list c.match-cmp.self-inside.top c.rebalance.new.top c.rebalance.ensures ∙ elim c.match-cmp.branch [
      | in-Less+in_ok-insert-in-Less+else-height-before w ↦
          ap (λ x. (list_and_height x.top).0) w.self-inside-is
          ∙ ap (λ (es : List Child). es ++ w.deref_mut.result.now.child ∷ w.deref_mut.result.now.right.0) w.in_ok-insert-in-Less.ensures.ok
          ∙ sym (put_at_left _ _ _ c.self.view_is c.in-Some.is _ w.deref_mut.ensures.value c.requires.rise c.args.child _ c.deref.ensures
          (sym c.cmp.ensures ∙ w.in-Less.is))
      | in-Equal w ↦
          let found = at_middle _ _ _ c.self.view_is c.in-Some.is _ c.deref.ensures c.requires.rise c.args.child.seg _ c.deref.ensures
          (sym c.cmp.ensures ∙ w.in-Equal.is) in
          let none = c.requires.absent in
          absurd cc
      | in-Greater+in_ok-insert-in-Greater+else-height-before-2 w ↦
          ap (λ x. (list_and_height x.top).0) w.self-inside-is
          ∙ ap (λ (es : List Child). w.deref_mut-in-Greater.result.now.left.0 ++ w.deref_mut-in-Greater.result.now.child ∷ es)
          w.in_ok-insert-in-Greater.ensures.ok
          ∙ sym (put_at_right _ _ _ c.self.view_is c.in-Some.is _ w.deref_mut-in-Greater.ensures.value c.requires.rise c.args.child _ c.deref.ensures
          (sym c.cmp.ensures ∙ w.in-Greater.is))
    ]

pub returns-then-height-before-clause-ok : goal.returns-then-height-before-clause-ok
returns-then-height-before-clause-ok t c =
    ap (λ (es : List Child). es ++ c.deref_mut.result.now.child ∷ c.deref_mut.result.now.right.0) c.in_ok-insert-in-Less.ensures.ok
    ∙ sym (put_at_left _ _ _ c.self.view_is c.in-Some.is _ c.deref_mut.ensures.value c.requires.rise c.args.child _ c.deref.ensures
    (sym c.cmp.ensures ∙ c.in-Less.is))

pub returns-then-height-before-2-clause-ok : goal.returns-then-height-before-2-clause-ok
returns-then-height-before-2-clause-ok t c =
    ap (λ (es : List Child). c.deref_mut-in-Greater.result.now.left.0 ++ c.deref_mut-in-Greater.result.now.child ∷ es) c.in_ok-insert-in-Greater.ensures.ok
    ∙ sym (put_at_right _ _ _ c.self.view_is c.in-Some.is _ c.deref_mut-in-Greater.ensures.value c.requires.rise c.args.child _ c.deref.ensures
    (sym c.cmp.ensures ∙ c.in-Greater.is))
