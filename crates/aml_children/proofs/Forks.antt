-- What is seen of a tree, by its fork or a copy of it: its children are those of the two sides around one, so they are
-- sought and put on one side (`at_left`, `put_right` and their kin). And the forks that come of a lift.
use Rattle.std.proofs.Common.{◌≡◌, ℕ, ◌+◌, ◌^◌, ◌<◌, ◌≤◌, true, false, List, ◌∷◌, ◌++◌, length, Option, Some, sym, ap}
use Rattle.std.proofs.Common.{subst, ◌∙◌, arith, length-append, append_assoc}
use Rattle.std.specs.Global.{Box}
use Rattle.std.specs.Option.{option_or}
use Rattle.std.specs.Ordering.{is_lt}
use Rattle.std.specs.declared.cmp.Ordering.{Ordering}
use Rattle.std.specs.declared.cmp.Ordering.TheVariants.{Less, Equal, Greater}
use Rattle.aml_names.specs.declared.segments.Seg.{Seg}
use Rattle.aml_names.specs.Paths.{seg_cmp}
use Rattle.aml_children.specs.Children.{child_in, put, behind, first_node, Rise}
use Rattle.aml_children.proofs.Sides.{front_rises, back_rises, found_left, found_right, found_middle, behind_left}
use Rattle.aml_children.proofs.Sides.{behind_right, put_left, put_right}
use Rattle.aml_children.specs.declared.children.Child.{Child}
use Rattle.aml_children.specs.Trees.{list_of, list_and_height, left_lifted, right_lifted, IsBalanced, AreBalanced}
use Rattle.aml_children.specs.Trees.{CanLean, IsRebalanced}
use Rattle.aml_children.specs.declared.trees.Fork.{Fork}

module _ (d : List Child × ℕ) (o : Option (Box Fork)) (b : Box Fork) (view : list_and_height o ≡ d) (is : o ≡ Some b) where
  pub listed : d.0 ≡ list_of b.value
  listed = sym (ap (λ (d : List Child × ℕ). d.0) view) ∙ ap (λ o. (list_and_height o).0) is

  pub heighted : d.1 ≡ b.value.height
  heighted = sym (ap (λ (d : List Child × ℕ). d.1) view) ∙ ap (λ o. (list_and_height o).1) is

  module _ (h : Fork) (same : h ≡ b.value) where
    list_is : d.0 ≡ list_of h
    list_is = listed ∙ ap list_of (sym same)

    pub height_is : d.1 ≡ h.height
    height_is = heighted ∙ ap (λ (f : Fork). f.height) (sym same)

    pub balanced_is : AreBalanced o → IsBalanced h
    balanced_is all = subst IsBalanced (sym same) (subst AreBalanced is all)

    pub left_shorter : length h.left.0 < length d.0
    left_shorter = omega (arith, ap length list_is, length-append h.left.0 (h.child ∷ h.right.0))

    pub right_shorter : length h.right.0 < length d.0
    right_shorter = omega (arith, ap length list_is, length-append h.left.0 (h.child ∷ h.right.0))

    module _ (rise : Rise d.0) where
      pub left_rises : Rise h.left.0
      left_rises = front_rises h.left.0 (h.child ∷ h.right.0) (subst Rise list_is rise)

      pub right_rises : Rise h.right.0
      right_rises = (back_rises h.left.0 h.child h.right.0 (subst Rise list_is rise)).1

      -- by the comparison with another copy
      module _ (s : Seg) (g : Fork) (again : g ≡ b.value) where
        compared : {X : Type 0} (test : Ordering → X) (x : X) → test (seg_cmp s g.child.seg) ≡ x
            → test (seg_cmp s h.child.seg) ≡ x
        compared test x told = ap (λ (f : Fork). test (seg_cmp s f.child.seg)) (same ∙ sym again) ∙ told

        pub at_left : seg_cmp s g.child.seg ≡ Less → child_in d.0 s ≡ child_in h.left.0 s
        at_left less = ap (λ es. child_in es s) list_is
            ∙ found_left h.left.0 h.child h.right.0 s (subst Rise list_is rise) (compared (λ o. o) Less less)

        pub at_right : seg_cmp s g.child.seg ≡ Greater → child_in d.0 s ≡ child_in h.right.0 s
        at_right more = ap (λ es. child_in es s) list_is
            ∙ found_right h.left.0 h.child h.right.0 s (subst Rise list_is rise) (compared (λ o. o) Greater more)

        pub at_middle : seg_cmp s g.child.seg ≡ Equal → child_in d.0 s ≡ Some h.child.node
        at_middle equal = ap (λ es. child_in es s) list_is
            ∙ found_middle h.left.0 h.child h.right.0 s (subst Rise list_is rise) (compared (λ o. o) Equal equal)

        pub behind_at_left : is_lt (seg_cmp s g.child.seg) ≡ true
            → first_node (behind s d.0) ≡ option_or (first_node (behind s h.left.0)) (Some h.child.node)
        behind_at_left less = ap (λ es. first_node (behind s es)) list_is ∙ behind_left h.left.0 h.child h.right.0 s (compared is_lt true less)

        pub behind_at_right : is_lt (seg_cmp s g.child.seg) ≡ false → behind s d.0 ≡ behind s h.right.0
        behind_at_right not = ap (behind s) list_is ∙ behind_right h.left.0 h.child h.right.0 s (subst Rise list_is rise) (compared is_lt false not)

      module _ (e : Child) (g : Fork) (again : g ≡ b.value) where
        pub put_at_left : seg_cmp e.seg g.child.seg ≡ Less → put d.0 e ≡ put h.left.0 e ++ h.child ∷ h.right.0
        put_at_left less = ap (λ es. put es e) list_is ∙ put_left h.child h.right.0 e h.left.0 (compared e.seg g again (λ o. o) Less less)

        pub put_at_right : seg_cmp e.seg g.child.seg ≡ Greater → put d.0 e ≡ h.left.0 ++ h.child ∷ put h.right.0 e
        put_at_right more = ap (λ es. put es e) list_is
            ∙ put_right h.child h.right.0 e h.left.0 (subst Rise list_is rise) (compared e.seg g again (λ o. o) Greater more)

pub can_lean : (o : Option (Box Fork)) (b : Box Fork) (d : List Child × ℕ) → list_and_height o ≡ d → AreBalanced o
    → o ≡ Some b → d.1 ≤ 2 ^ 63 → CanLean b.value
can_lean o b d view all is room = record { balanced = subst AreBalanced is all; room = omega (arith, heighted d o b view is, room) }

-- a side that was too high, leant outward and lifted
module _ (f l : Fork) (list : list_of l ≡ f.left.0) (outer : l.left.1 + 1 ≡ f.left.1) (inner : (f.left.1 ≤ l.right.1 + 3) × (l.right.1 + 1 ≤ f.left.1))
    (two : f.left.1 ≡ f.right.1 + 2) where
  pub lowered_left : IsRebalanced f (left_lifted f l)
  lowered_left = record {
    balanced = grind arith;
    list = sym (append_assoc l.left.0 (l.child ∷ l.right.0) (f.child ∷ f.right.0)) ∙ ap (λ (es : List Child). es ++ f.child ∷ f.right.0) list;
    not_lower = omega arith;
    not_higher = omega arith;
    settled = λ even. absurd (omega arith);
  }

module _ (f r : Fork) (list : list_of r ≡ f.right.0) (outer : r.right.1 + 1 ≡ f.right.1) (inner : (f.right.1 ≤ r.left.1 + 3) × (r.left.1 + 1 ≤ f.right.1))
    (two : f.right.1 ≡ f.left.1 + 2) where
  pub lowered_right : IsRebalanced f (right_lifted f r)
  lowered_right = record {
    balanced = grind arith;
    list = append_assoc f.left.0 (f.child ∷ r.left.0) (r.child ∷ r.right.0) ∙ ap (λ (es : List Child). f.left.0 ++ f.child ∷ es) list;
    not_lower = omega arith;
    not_higher = omega arith;
    settled = λ even. absurd (omega arith);
  }
