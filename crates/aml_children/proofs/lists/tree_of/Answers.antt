use Rattle.std.proofs.Common.{◌≡◌, ◌+◌, [], ap, sym, subst, ◌∙◌, None, take, slice_index_or, arith}
use Rattle.std.proofs.lemmas.List.{get_or_default}
use Rattle.aml_children.specs.declared.children.Child.{Child}
use Rattle.aml_children.specs.Children.{child_in, put, Rise}
use Rattle.aml_children.proofs.Rows.{comes_last}
use Rattle.aml_children.proofs.lists.tree_of.Goals as goal
use Rattle.aml_children.proofs.lists.tree_of.Goals.{In-loop-child}

abbrev child : In-loop-child → Child
child c = slice_index_or c.args.children.now c.loop-child.child-index (record { seg = record { 0 = [] }; node = 0 })

-- what comes to the tree comes behind all that is there
last : (c : In-loop-child) → (let cs = c.args.children.now in let i = c.loop-child.child-index in
    Rise (take i cs) × (child_in (take i cs) (child c).seg ≡ None) × (put (take i cs) (child c) ≡ take (i + 1) cs))
last c = comes_last c.args.children.now c.loop-child.child-index (child c) c.loop-child-test.true
    (get_or_default c.args.children.now c.loop-child.child-index _ (child c) c.loop-child-test.true) c.requires.rise

pub insert-requires-clause-rise : goal.insert-requires-clause-rise
insert-requires-clause-rise c = subst Rise (sym c.loop-child.invariant.list) (last (goal.at.insert-requires-clause-rise c).In-loop-child).0

pub insert-requires-clause-absent : goal.insert-requires-clause-absent
insert-requires-clause-absent c = let b = (goal.at.insert-requires-clause-absent c).In-loop-child in
    ap (λ cs. child_in cs (child b).seg) c.loop-child.invariant.list ∙ (last b).1

pub loop-child-preserved : goal.loop-child-preserved
loop-child-preserved c = let b = (goal.at.loop-child-preserved c).In-loop-child in record {
  list = c.in_ok-insert.ensures.ok ∙ ap (λ cs. put cs (child b)) c.loop-child.invariant.list ∙ (last b).2;
  low = omega (arith, c.in_ok-insert.ensures.at_most_one_higher, c.loop-child.invariant.low);
}
