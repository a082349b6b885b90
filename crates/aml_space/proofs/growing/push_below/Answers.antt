use Rattle.std.proofs.Common.{◌≡◌, ◌+◌, ◌++◌, Some, set, sym, ap, ◌∙◌, subst, length, slice_get, arith, length-append}
use Rattle.std.proofs.lemmas.Option.{slice_get-get_or}
use Rattle.aml_children.specs.declared.children.Child.{Child}
use Rattle.aml_children.specs.Children.{child_in, Rise}
use Rattle.aml_space.specs.Nodes.{kids_in, kids_of, depths_of, chain, with_child}
use Rattle.aml_children.proofs.Basics.{read_front}
use Rattle.aml_children.proofs.Family.{family_rises}
use Rattle.aml_space.proofs.Grow.{set_with, with_front}
use Rattle.aml_space.proofs.growing.push_below.Goals as goal
use Rattle.aml_space.proofs.growing.push_below.Goals.{After-index_mut-parent}

-- the parent stands behind the new nodes as before
was : (c : After-index_mut-parent)
    → slice_get c.push_chain.new.nodes.items c.args.at ≡ Some c.index_mut-parent.result.now
was c =
    let long = ap length c.in_ok-push_chain.ensures.ok ∙ length-append c.args.nodes.now.items _ in
    slice_get-get_or _ c.args.at c.index_mut-parent.result.now (omega (arith, c.requires.within, long)) ∙ ap Some (sym c.index_mut-parent.ensures.value)

same_kids : (c : After-index_mut-parent)
    → kids_of c.args.nodes.now.items c.args.at ≡ c.index_mut-parent.result.now.children
same_kids c = ap kids_in (sym (read_front c.args.nodes.now.items _ c.args.at c.requires.within)
    ∙ ap (λ ms. slice_get ms c.args.at) (sym c.in_ok-push_chain.ensures.ok) ∙ was c)

pub insert-requires-clause-rise : goal.insert-requires-clause-rise
insert-requires-clause-rise c =
    let ns = c.args.nodes.now.items in
    subst Rise (same_kids (goal.at.insert-requires-clause-rise c).After-index_mut-parent)
    (family_rises c.args.at (length ns) (kids_of ns c.args.at) (c.requires.shape.families c.args.at))

pub insert-requires-clause-absent : goal.insert-requires-clause-absent
insert-requires-clause-absent c =
    ap (λ cs. child_in cs c.args.seg) (sym (same_kids (goal.at.insert-requires-clause-absent c).After-index_mut-parent)) ∙ c.requires.absent

pub returns-clause-ok : goal.returns-clause-ok
returns-clause-ok c =
    let ns = c.args.nodes.now.items in
    let child : Child = record { seg = c.args.seg; node = c.len-node.result } in
    (λ i. set c.push_chain.new.nodes.items c.args.at (record c.index_mut-parent.result.now { children = c.in_ok-insert.ensures.ok i }))
    ∙ set_with c.push_chain.new.nodes.items c.args.at child c.index_mut-parent.result.now (was (goal.at.returns-clause-ok c).After-index_mut-parent)
    ∙ ap (λ ms. with_child ms c.args.at child) c.in_ok-push_chain.ensures.ok
    ∙ with_front ns _ c.args.at child c.requires.within
    ∙ (λ i. with_child ns c.args.at (record { seg = c.args.seg; node = (c.len-node.ensures ∙ c.args.nodes.now.ok.0) i })
    ++ chain c.args.at (length ns) c.args.seg (depths_of ns c.args.at + 1) c.args.path.now)
