use Rattle.std.proofs.Common.{◌≡◌, ℕ, List, sym, subst, ap, ◌∙◌, arith}
use Rattle.aml_children.specs.declared.children.Child.{Child}
use Rattle.aml_children.specs.Trees.{IsRebalanced, left_lifted, seen}
use Rattle.aml_children.specs.declared.trees.Fork.{Fork}
use Rattle.aml_children.proofs.Forks.{lowered_left}
use Rattle.aml_children.proofs.trees.lower_left.Goals as goal

pub returns-in-Some : goal.returns-in-Some
returns-in-Some c =
    let f = c.args.fork.value in
    let l = c.lean_left.result.value in
    let was : seen c.in-Some.left.value ≡ f.left = c.in-Some.ensures.same_view ∙ c.replace.ensures.value
    ∙ ap (λ (h : Fork). h.left) c.deref_mut.ensures.value in
    let high = ap (λ (d : List Child × ℕ). d.1) was in
    subst (IsRebalanced f) (sym (c.lift_left.ensures ∙ (λ i. left_lifted (record (c.deref_mut.ensures.value i) { left = c.replace.new.dest }) l)))
    (lowered_left f l (c.lean_left.ensures.list ∙ ap (λ (d : List Child × ℕ). d.0) was) (omega (arith, c.lean_left.ensures.outer, high))
    (omega (arith, c.lean_left.ensures.inner.0, high), omega (arith, c.lean_left.ensures.inner.1, high)) c.requires.two_higher)
