use Rattle.std.proofs.Common.{sym, ◌∙◌, arith, rules}
use Rattle.aml_children.proofs.Forks.{height_is, balanced_is, left_rises, right_rises, left_shorter, right_shorter}
use Rattle.aml_children.proofs.Forks.{at_left, at_right, at_middle}
use Rattle.aml_children.proofs.trees.Tree.+find.Goals as goal

pub find-found-requires : goal.find-found-requires
find-found-requires t c =
    let same = c.deref-in-Less.ensures in
    let shorter = left_shorter _ _ _ c.self.view_is c.in-Some.is _ same in
    let high = height_is _ _ _ c.self.view_is c.in-Some.is _ same in
    let balanced = balanced_is _ _ _ c.self.view_is c.in-Some.is _ same c.self.invariant in
    (search rules, (omega (arith, high, balanced.height, c.requires.low), left_rises _ _ _ c.self.view_is c.in-Some.is _ same c.requires.rise))

pub find-found-requires-in-Greater : goal.find-found-requires-in-Greater
find-found-requires-in-Greater t c =
    let same = c.deref-in-Greater.ensures in
    let shorter = right_shorter _ _ _ c.self.view_is c.in-Some.is _ same in
    let high = height_is _ _ _ c.self.view_is c.in-Some.is _ same in
    let balanced = balanced_is _ _ _ c.self.view_is c.in-Some.is _ same c.self.invariant in
    (search rules, (omega (arith, high, balanced.height, c.requires.low), right_rises _ _ _ c.self.view_is c.in-Some.is _ same c.requires.rise))

pub returns-in-Less-clause-node : goal.returns-in-Less-clause-node
returns-in-Less-clause-node t c = c.find-found.ensures.node ∙ sym (at_left _ _ _ c.self.view_is c.in-Some.is _ c.deref-in-Less.ensures c.requires.rise
    c.args.seg _ c.deref.ensures (sym c.cmp.ensures ∙ c.in-Less.is))

pub returns-in-Equal-clause-node : goal.returns-in-Equal-clause-node
returns-in-Equal-clause-node t c = sym (at_middle _ _ _ c.self.view_is c.in-Some.is _ c.deref-in-Equal.ensures c.requires.rise
    c.args.seg _ c.deref.ensures (sym c.cmp.ensures ∙ c.in-Equal.is))

pub returns-in-Greater-clause-node : goal.returns-in-Greater-clause-node
returns-in-Greater-clause-node t c = c.find-found-in-Greater.ensures.node ∙ sym (at_right _ _ _ c.self.view_is c.in-Some.is _ c.deref-in-Greater.ensures
    c.requires.rise c.args.seg _ c.deref.ensures (sym c.cmp.ensures ∙ c.in-Greater.is))
