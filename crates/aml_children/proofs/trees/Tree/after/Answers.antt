use Rattle.std.proofs.Common.{◌≡◌, ℕ, Option, Some, None, refl, sym, ap, ◌∙◌}
use Rattle.std.specs.Option.{option_or}
use Rattle.aml_children.specs.Children.{behind, first_node}
use Rattle.aml_children.specs.declared.trees.Fork.{Fork}
use Rattle.aml_children.proofs.Forks.{left_rises, right_rises, behind_at_left, behind_at_right}
use Rattle.aml_children.proofs.trees.Tree.after.Goals as goal

-- where a node stands, there is no need of another
nearer : (a b : Option ℕ) (n : ℕ) → option_or (option_or a (Some n)) b ≡ option_or a (Some n)
nearer (Some m) b n = refl
nearer None b n = refl

pub forks-preserved-then-is_behind : goal.forks-preserved-then-is_behind
forks-preserved-then-is_behind c =
    let left = c.deref-then-is_behind-2.ensures in
    record {
      rise = left_rises _ _ _ c.tree.view_is c.in-Some.is _ left c.forks.invariant.rise;
      same = c.forks.invariant.same
          ∙ ap (λ o. option_or o c.forks.found) (behind_at_left _ _ _ c.tree.view_is c.in-Some.is _ left c.forks.invariant.rise c.args.seg _ c.deref.ensures
          (sym c.is_behind.ensures ∙ c.if-is_behind.true))
          ∙ nearer (first_node (behind c.args.seg c.deref-then-is_behind-2.result.now.left.0)) c.forks.found _
          ∙ ap (λ (f : Fork). option_or (first_node (behind c.args.seg c.deref-then-is_behind-2.result.now.left.0)) (Some f.child.node))
          (left ∙ sym c.deref-then-is_behind.ensures);
    }

pub forks-preserved : goal.forks-preserved
forks-preserved c =
    let right = c.deref-else-is_behind.ensures in
    record {
      rise = right_rises _ _ _ c.tree.view_is c.in-Some.is _ right c.forks.invariant.rise;
      same = c.forks.invariant.same ∙ ap (λ cs. option_or (first_node cs) c.forks.found) (behind_at_right _ _ _ c.tree.view_is c.in-Some.is _ right
          c.forks.invariant.rise c.args.seg _ c.deref.ensures (sym c.is_behind.ensures ∙ c.if-is_behind.false));
    }
