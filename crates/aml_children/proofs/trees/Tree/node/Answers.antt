use Rattle.std.proofs.Common.{refl, sym, ap, ◌∙◌}
use Rattle.aml_children.specs.Children.{child_in}
use Rattle.aml_children.specs.Trees.{list_and_height}
use Rattle.aml_children.proofs.Forks.{left_rises, right_rises, left_shorter, right_shorter, at_left, at_right}
use Rattle.aml_children.proofs.Forks.{at_middle}
use Rattle.aml_children.proofs.trees.Tree.node.Goals as goal

pub forks-init : goal.forks-init
forks-init c = record { rise = c.requires; same = refl }

pub returns-in-None : goal.returns-in-None
returns-in-None c = sym (c.forks.invariant.same ∙ ap (λ d. child_in d.0 c.args.seg) (sym c.tree.view_is ∙ ap list_and_height c.in-None.is))

pub forks-preserved-in-Less : goal.forks-preserved-in-Less
forks-preserved-in-Less c = record {
  rise = left_rises _ _ _ c.tree.view_is c.in-Some.is _ c.deref-in-Less.ensures c.forks.invariant.rise;
  same = c.forks.invariant.same ∙ at_left _ _ _ c.tree.view_is c.in-Some.is _ c.deref-in-Less.ensures c.forks.invariant.rise c.args.seg _ c.deref.ensures
      (sym c.cmp.ensures ∙ c.in-Less.is);
}

pub forks-smaller-in-Less : goal.forks-smaller-in-Less
forks-smaller-in-Less c = left_shorter _ _ _ c.tree.view_is c.in-Some.is _ c.deref-in-Less.ensures

pub returns-in-Equal : goal.returns-in-Equal
returns-in-Equal c = sym (c.forks.invariant.same ∙ at_middle _ _ _ c.tree.view_is c.in-Some.is _ c.deref-in-Equal.ensures c.forks.invariant.rise c.args.seg
    _ c.deref.ensures (sym c.cmp.ensures ∙ c.in-Equal.is))

pub forks-preserved : goal.forks-preserved
forks-preserved c = record {
  rise = right_rises _ _ _ c.tree.view_is c.in-Some.is _ c.deref-in-Greater.ensures c.forks.invariant.rise;
  same = c.forks.invariant.same ∙ at_right _ _ _ c.tree.view_is c.in-Some.is _ c.deref-in-Greater.ensures c.forks.invariant.rise c.args.seg _ c.deref.ensures
      (sym c.cmp.ensures ∙ c.in-Greater.is);
}

pub forks-smaller : goal.forks-smaller
forks-smaller c = right_shorter _ _ _ c.tree.view_is c.in-Some.is _ c.deref-in-Greater.ensures
