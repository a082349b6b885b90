-- The levels of a scope. A level's parent is the one before it (`led_above`); further down the numbers are greater
-- (`rises`).
use Rattle.std.proofs.Common.{◌≡◌, ℕ, ◌+◌, ◌<◌, ◌≤◌, List, [], ◌∷◌, ◌++◌, length, take, drop, get_or, Option}
use Rattle.std.proofs.Common.{Some, None, refl, sym, ap, ◌∙◌, arith}
use Rattle.std.specs.Option.{option_and_then}
use Rattle.std.proofs.lemmas.Option.{same_Some}
use Rattle.std.proofs.lemmas.List.{take_more, take-append-drop, take-take, drop_more}
use Rattle.aml_names.specs.declared.segments.Seg.{Seg}
use Rattle.aml_children.specs.Children.{child_in}
use Rattle.aml_space.specs.declared.nodes.Node.{Node}
use Rattle.aml_children.specs.Numbered.{walk}
use Rattle.aml_space.specs.Nodes.{kids_of, links_of, IsIndex}
use Rattle.aml_children.proofs.Basics.{alone}
use Rattle.aml_children.proofs.Walks.{walk_push, walk_none, led_more, kid_range, front_led}

abbrev pub none_seg : Seg
none_seg = record { 0 = [] }

module _ (ns : List Node) (scope : List Seg) where
  -- behind the longest front that leads somewhere nothing does
  pub reach_past : (k at : ℕ) → walk (kids_of ns) 0 (take k scope) ≡ Some at
      → ((s : Seg) (q : List Seg) → drop k scope ≡ s ∷ q → child_in (kids_of ns at) s ≡ None)
      → (d : ℕ) → k < d → d ≤ length scope → walk (kids_of ns) 0 (take d scope) ≡ None
  reach_past k at led ends d more within =
      let inside : k < length scope = omega (arith, more, within) in
      let none = ends (get_or scope k none_seg) (drop (k + 1) scope) (drop_more scope k none_seg inside) in
      ap (walk (kids_of ns) 0) (sym (take-append-drop (k + 1) (take d scope))
      ∙ ap (λ q. q ++ drop (k + 1) (take d scope)) (take-take (k + 1) d scope (omega (arith, more))))
      ∙ walk_none (kids_of ns) 0 (take (k + 1) scope) _ (led_more (kids_of ns) at k scope none_seg None inside led none)

  -- the node of a candidate
  pub candidate_node : (segment : List Seg) (e : Seg) (d at : ℕ) → length segment ≡ 1
      → walk (kids_of ns) 0 (take d scope) ≡ Some at →
      child_in (kids_of ns at) (get_or segment 0 e) ≡ walk (kids_of ns) 0 (take d scope ++ segment)
  candidate_node segment e d at one led = sym (walk_push (kids_of ns) 0 (take d scope) (get_or segment 0 e)
      ∙ ap (option_and_then (λ j. child_in (kids_of ns j) (get_or segment 0 e))) led) ∙ ap (λ t. walk (kids_of ns) 0 (take d scope ++ t)) (alone segment e one)

module _ (ns : List Node) (is : IsIndex ns) (path : List Seg) where
  -- the step before the end of a path
  pub step_above : (q : List Seg) (s : Seg) (j : ℕ) → walk (kids_of ns) 0 (q ++ s ∷ []) ≡ Some j
      → (i : ℕ) × (walk (kids_of ns) 0 q ≡ Some i) × (child_in (kids_of ns i) s ≡ Some j)
  step_above q s j led = by (walk (kids_of ns) 0 q) refl (sym (walk_push (kids_of ns) 0 q s) ∙ led)
    where
      by : (o : Option ℕ) → walk (kids_of ns) 0 q ≡ o → option_and_then (λ i. child_in (kids_of ns i) s) o ≡ Some j
          → (i : ℕ) × (walk (kids_of ns) 0 q ≡ Some i) × (child_in (kids_of ns i) s ≡ Some j)
      by None here found = absurd cc
      by (Some i) here found = (i, here, found)

  -- the level before one
  pub before : (d j : ℕ) → d < length path → walk (kids_of ns) 0 (take (d + 1) path) ≡ Some j
      → (i : ℕ) × (walk (kids_of ns) 0 (take d path) ≡ Some i) × (child_in (kids_of ns i) (get_or path d none_seg) ≡ Some j)
  before d j within led =
      step_above (take d path) (get_or path d none_seg) j (sym (ap (walk (kids_of ns) 0) (take_more path d none_seg within)) ∙ led)

  pub parent_led : (q : List Seg) (s : Seg) (j : ℕ) → walk (kids_of ns) 0 (q ++ s ∷ []) ≡ Some j
      → walk (kids_of ns) 0 q ≡ Some (links_of ns j).0
  parent_led q s j led =
      let there = step_above q s j led in
      there.1 ∙ ap (λ (l : ℕ × Seg). Some l.0) (sym (is.linked.below there.0 j s there.2))

  pub led_above : (d j : ℕ) → d < length path → walk (kids_of ns) 0 (take (d + 1) path) ≡ Some j
      → walk (kids_of ns) 0 (take d path) ≡ Some (links_of ns j).0
  led_above d j within led =
      parent_led (take d path) (get_or path d none_seg) j (sym (ap (walk (kids_of ns) 0) (take_more path d none_seg within)) ∙ led)

  -- a longer front leads to a greater number
  pub rises : (d e i j : ℕ) → d < e → e ≤ length path → walk (kids_of ns) 0 (take d path) ≡ Some i
      → walk (kids_of ns) 0 (take e path) ≡ Some j → i < j
  rises d e i j less within upper lower =
      let next = front_led is.shape path (d + 1) e j (omega (arith, less)) lower in
      let there = before d next.0 (omega (arith, less, within)) next.1 in
      let range = kid_range is.shape there.0 (get_or path d none_seg) next.0 there.2 in
      omega (arith, range.0, next.2, same_Some there.0 i (sym there.1 ∙ upper))
