-- How far a path leads: where it leads nowhere (`none_led`). The path of a number leads to its node (`numbered_led`), and
-- the root's to the first (`root_read`).
use Rattle.std.proofs.Common.{◌≡◌, ℕ, ◌<◌, List, [], ◌∷◌, ◌++◌, length, Some, None, refl, sym, ap, ◌∙◌}
use Rattle.std.proofs.Common.{false, take, drop, get_or, arith, ◌+◌, ◌-◌, ◌^◌, ◌≤◌, subst, append_assoc}
use Rattle.std.proofs.lemmas.Bool.{false≢true}
use Rattle.std.proofs.lemmas.List.{take_all}
use Rattle.std.specs.Prelude.{◌==◌}
use Rattle.std.specs.Option.{option_and_then}
use Rattle.aml_names.specs.declared.segments.Seg.{Seg}
use Rattle.aml_children.specs.Numbered.{walk}
use Rattle.aml_children.specs.Children.{child_in}
use Rattle.aml_children.proofs.Walks.{walk_append, node_range, kid_range}
use Rattle.aml_space.proofs.Named.{path_on}
use Rattle.aml_namespace.specs.Kinds.{target_in}
use Rattle.aml_space.specs.declared.nodes.Node.{Node}
use Rattle.aml_space.specs.declared.growing.Reach.{Reach}
use Rattle.aml_namespace.specs.Known.{Known}
use Rattle.aml_space.specs.declared.below.Below.{Below}
use Rattle.aml_space.specs.Below.{path_below}
use Rattle.aml_space.specs.Nodes.{known_in, kids_of, path_of, path_by, paths_in, with_path, IsIndex, IsReach}
use Rattle.aml_space.proofs.Paths.{Leads, path_more}
use Rattle.aml_space.proofs.Targets.{path_read}

-- the first of some segments, and those behind it
pub first_left : (left : List Seg) → 1 ≤ length left → left ≡ get_or left 0 (record { 0 = [] }) ∷ take (length left - 1) (drop 1 left)
first_left [] some = absurd (omega (arith, some))
first_left (s ∷ q) some = ap (λ q. s ∷ q) (sym (take_all (length (s ∷ q) - 1) q (omega arith)))

module _ (ns : List Node) (is : IsIndex ns) where
  -- some segments behind the path of a node
  pub behind_led : (i : ℕ) (q : List Seg) → i < length ns → walk (kids_of ns) 0 (path_of ns i ++ q) ≡ walk (kids_of ns) i q
  behind_led i q within = walk_append (kids_of ns) 0 (path_of ns i) q
      ∙ ap (option_and_then (λ j. walk (kids_of ns) j q)) (is.there i within)

  -- and else nowhere
  pub none_led : (r : Reach) → IsReach ns r → (s : Seg) (q : List Seg) → r.left.now ≡ s ∷ q
      → walk (kids_of ns) 0 (path_by ns r) ≡ None
  none_led r reach s q some = behind_led r.node r.left.now reach.within ∙ ap (walk (kids_of ns) r.node) some
      ∙ ap (option_and_then (λ j. walk (kids_of ns) j q)) (reach.ends s q some)

  pub left_none : (r : Reach) → IsReach ns r → (length r.left.now == 0) ≡ false → walk (kids_of ns) 0 (path_by ns r) ≡ None
  left_none r reach some = by r.left.now refl some
    where
      by : (left : List Seg) → r.left.now ≡ left → (length left == 0) ≡ false → walk (kids_of ns) 0 (path_by ns r) ≡ None
      by [] same some = absurd (false≢true (sym some))
      by (s ∷ q) same some = none_led r reach s q same

  -- one segment further
  pub step_on : (at next : ℕ) (left : List Seg) → 1 ≤ length left → child_in (kids_of ns at) (get_or left 0 (record { 0 = [] })) ≡ Some next
      → path_of ns next ++ take (length left - 1) (drop 1 left) ≡ path_of ns at ++ left
  step_on at next left some found =
      let s = get_or left 0 (record { 0 = [] }) in
      let rest = take (length left - 1) (drop 1 left) in
      let range = kid_range is.shape at s next found in
      ap (λ p. p ++ rest) (path_on ns is next (omega (arith, range.0)) range.1
      ∙ ap (λ (l : ℕ × Seg). path_of ns l.0 ++ l.1 ∷ []) (is.linked.below at next s found))
      ∙ append_assoc (path_of ns at) (s ∷ []) rest ∙ ap (λ q. path_of ns at ++ q) (sym (first_left left some))

  -- the root is the first node
  pub root_within : 0 < length ns
  root_within = node_range is.shape [] 0 refl

  -- and its number stands for no segments
  pub root_read : target_in (paths_in ns) 0 ≡ []
  root_read = path_read ns 0 root_within

-- the nodes of what is left of a path
pub left_grown : (ns new : List Node) (r : Reach) (s : Seg) (q : List Seg) → IsIndex ns → IsReach ns r → r.left.now ≡ s ∷ q
    → length ns + length q < 2 ^ 32 → new ≡ with_path ns r.node s q → Leads ns new (path_by ns r) (length ns + length q)
left_grown ns new r s q is reach some room same =
    subst (λ ms. Leads ns ms (path_by ns r) (length ns + length q)) (sym same)
    (subst (λ left. Leads ns (with_path ns r.node s q) (path_of ns r.node ++ left) (length ns + length q)) (sym some)
    (path_more ns (path_of ns r.node) r.node s q reach.within room is (is.there r.node reach.within) (reach.ends s q some)))

-- a path by the paths of a space is that by its nodes
pub seen_below : (ns ms : List Node) (k : Known) (b : Below) → ns ≡ ms → known_in ms ≡ k
    → path_below (paths_in ns) b ≡ path_below k.paths b
seen_below ns ms k b same view = ap (λ ns. path_below (paths_in ns) b) same ∙ ap (λ (k : Known). path_below k.paths b) view

-- and so is one that leads so far
pub reach_path : (ns ms : List Node) (k : Known) (r : Reach) (b : Below) → ns ≡ ms → known_in ms ≡ k
    → path_by ns r ≡ path_below (paths_in ns) b → path_by ms r ≡ path_below k.paths b
reach_path ns ms k r b same view path = subst (λ ms. path_by ms r ≡ path_below (paths_in ns) b) same path
    ∙ seen_below ns ms k b same view
