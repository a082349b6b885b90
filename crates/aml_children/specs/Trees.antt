-- A stepping stone of the proofs: what a fork of a tree of children is seen as, and what holds of it.
use Rattle.std.specs.Prelude.{◌≡◌, ℕ, ◌+◌, ◌^◌, ◌<◌, ◌≤◌, max, List, [], ◌∷◌, ◌++◌, length, Option, Some, None, IfSome}
use Rattle.std.specs.Global.{Box}
use Rattle.aml_children.specs.declared.children.Child.{Child}
use Rattle.aml_children.specs.declared.children.Kept.{Kept}
use Rattle.aml_children.specs.declared.children.Kept.TheVariants.{Nobody, Only, Few, Many}
use Rattle.aml_children.specs.declared.trees.Fork.{Fork}

-- the children of a fork in order
abbrev pub list_of : Fork → List Child
list_of f = f.left.0 ++ f.child ∷ f.right.0

-- and the height that it stores
abbrev pub seen : Fork → List Child × ℕ
seen f = (list_of f, f.height)

abbrev pub list_and_height : Option (Box Fork) → List Child × ℕ
list_and_height None = ([], 0)
list_and_height (Some b) = seen b.value

abbrev pub height_of : Fork → ℕ
height_of f = max f.left.1 f.right.1 + 1

-- a fork of two sides, with its height
abbrev pub made : List Child × ℕ → Child → List Child × ℕ → Fork
made l c r = record { left = l; child = c; height = max l.1 r.1 + 1; right = r }

-- a fork whose left side was taken out, below that side
abbrev pub left_lifted : Fork → Fork → Fork
left_lifted f l = made l.left l.child (seen (made l.right f.child f.right))

abbrev pub right_lifted : Fork → Fork → Fork
right_lifted f r = made (seen (made f.left f.child r.left)) r.child r.right

abbrev pub DifferByAtMost : ℕ → ℕ → ℕ → Type 0
DifferByAtMost by l r = (l ≤ r + by) × (r ≤ l + by)

-- the stored height is right, and the heights of the sides differ by at most one
pub record IsBalanced (f : Fork) : Type 0 where
  pub height : f.height ≡ height_of f
  pub even : DifferByAtMost 1 f.left.1 f.right.1

abbrev pub AreBalanced : Option (Box Fork) → Type 0
AreBalanced o = IfSome o (λ b. IsBalanced b.value)

-- the height leaves room, and the heights of the sides differ by at most two
pub record IsNearlyBalanced (f : Fork) : Type 0 where
  pub room : max f.left.1 f.right.1 ≤ 2 ^ 63
  pub even : DifferByAtMost 2 f.left.1 f.right.1

abbrev pub AreNearlyBalanced : Option (Box Fork) → Type 0
AreNearlyBalanced o = IfSome o (λ b. IsNearlyBalanced b.value)

-- balanced, with room for one more above it
pub record CanLean (f : Fork) : Type 0 where
  pub balanced : IsBalanced f
  pub room : f.height ≤ 2 ^ 63

-- new is balanced, has the children of old, and a height that the sides of old allow
pub record IsRebalanced (old new : Fork) : Type 0 where
  pub balanced : IsBalanced new
  pub list : list_of new ≡ list_of old
  pub not_lower : max old.left.1 old.right.1 ≤ new.height
  pub not_higher : new.height ≤ height_of old
  pub settled : DifferByAtMost 1 old.left.1 old.right.1 → new.height ≡ height_of old

abbrev pub Rebalances : Option (Box Fork) → Option (Box Fork) → Type 0
Rebalances None m = m ≡ None
Rebalances (Some b) None = ⊥
Rebalances (Some b) (Some m) = IsRebalanced b.value m.value

-- the children that are kept in one of four ways
abbrev pub kept_list : Kept → List Child
kept_list Nobody = []
kept_list (Only c) = c ∷ []
kept_list (Few b) = b.value.items
kept_list (Many t) = t.0

-- a list of them is short, and a tree is low
abbrev pub IsFit : Kept → Type 0
IsFit (Few b) = length b.value.items ≤ 32
IsFit (Many t) = t.1 ≤ 64
IsFit _ = Unit {0}
