-- Where paths lead in a tree of nodes: step by step along a path (`led_step`, `led_more`), and to nodes in range
-- (`node_range`). No two paths lead to one node (`one_path`), so new content of a node is that of one path
-- (`put_path`).
use Rattle.std.specs.Prelude.{◌==◌}
use Rattle.std.proofs.Common.{◌≡◌, ℕ, ◌+◌, ◌<◌, ◌≤◌, Bool, true, false, cond, List, [], ◌∷◌, ◌++◌, length, take, drop}
use Rattle.std.proofs.Common.{get_or, Option, Some, None, IfSome, inl, inr, refl, sym, ap, ◌∙◌, arith, append_assoc}
use Rattle.std.specs.Option.{option_and_then}
use Rattle.std.specs.Ordering.{eq_by_cmp, is_eq}
use Rattle.std.specs.Cmp.{tied_itself}
use Rattle.std.proofs.lemmas.List.{append-nil, take_more, drop_more, take-append-drop, take-take}
use Rattle.std.proofs.lemmas.Option.{same_Some}
use Rattle.std.proofs.lemmas.Map.Views.{tells_apart}
use Rattle.std.proofs.lemmas.Bool.{eq-eqb, ne_eqb, cases_Bool, false≢true, false_from_ne_true}
use Rattle.aml_names.specs.declared.segments.Seg.{Seg}
use Rattle.aml_names.specs.Paths.{seg_cmp, path_cmp, exact_paths, paths_total}
use Rattle.aml_children.specs.declared.children.Child.{Child}
use Rattle.aml_children.specs.Children.{child_in}
use Rattle.aml_children.specs.Numbered.{walk, IsFamily, IsTree}
use Rattle.aml_children.proofs.Basics.{and_then_twice}

module _ (kids : ℕ → List Child) where
  -- behind a front a path leads where the rest does from there
  pub walk_append : (i : ℕ) (p q : List Seg)
      → walk kids i (p ++ q) ≡ option_and_then (λ j. walk kids j q) (walk kids i p)
  walk_append i [] q = refl
  walk_append i (s ∷ p) q = (λ t. option_and_then (λ j. walk_append j p q t) (child_in (kids i) s))
      ∙ sym (and_then_twice (λ j. walk kids j p) (λ j. walk kids j q) (child_in (kids i) s))

  pub walk_none : (i : ℕ) (p q : List Seg) → walk kids i p ≡ None → walk kids i (p ++ q) ≡ None
  walk_none i p q none = walk_append i p q ∙ ap (option_and_then (λ j. walk kids j q)) none

  pub walk_push : (i : ℕ) (q : List Seg) (s : Seg)
      → walk kids i (q ++ s ∷ []) ≡ option_and_then (λ j. child_in (kids j) s) (walk kids i q)
  walk_push i q s = walk_append i q (s ∷ []) ∙ (λ t. option_and_then (λ j. last (child_in (kids j) s) t) (walk kids i q))
    where
      last : (o : Option ℕ) → option_and_then (λ j. Some j) o ≡ o
      last None = refl
      last (Some j) = refl

  -- one step along the rest of a path, and to the end of a longer front
  pub led_step : (i k : ℕ) (path : List Seg) (d : Seg) (o : Option ℕ) → k < length path
      → child_in (kids i) (get_or path k d) ≡ o
      → walk kids i (drop k path) ≡ option_and_then (λ j. walk kids j (drop (k + 1) path)) o
  led_step i k path d o within found =
      ap (walk kids i) (drop_more path k d within) ∙ ap (option_and_then (λ j. walk kids j (drop (k + 1) path))) found

  pub led_more : (i k : ℕ) (path : List Seg) (d : Seg) (o : Option ℕ) → k < length path
      → walk kids 0 (take k path) ≡ Some i
      → child_in (kids i) (get_or path k d) ≡ o → walk kids 0 (take (k + 1) path) ≡ o
  led_more i k path d o within led found = ap (walk kids 0) (take_more path k d within) ∙ walk_push 0 (take k path) (get_or path k d)
      ∙ ap (option_and_then (λ j. child_in (kids j) (get_or path k d))) led ∙ found

module _ {len : ℕ} {kids : ℕ → List Child} (is : IsTree len kids) where
  -- the children of a node have numbers between its own and the end
  pub kid_range : (i : ℕ) (s : Seg) (j : ℕ) → child_in (kids i) s ≡ Some j → (i < j) × (j < len)
  kid_range i s j = range (kids i) (is.families i)
    where
      range : (cs : List Child) → IsFamily i len cs → child_in cs s ≡ Some j → (i < j) × (j < len)
      range [] family found = absurd cc
      range (c ∷ cs) family found = by (eq_by_cmp seg_cmp s c.seg) found (range cs family.1.1.1)
        where
          by : (b : Bool) → cond b (Some c.node) (child_in cs s) ≡ Some j
              → (child_in cs s ≡ Some j → (i < j) × (j < len)) → (i < j) × (j < len)
          by true e later = let same = same_Some c.node j e in (omega (arith, same, family.0), omega (arith, same, family.1.0))
          by false e later = later e

  pub kid_within : (i : ℕ) (s : Seg) (o : Option ℕ) → o ≡ child_in (kids i) s → IfSome o (λ j. j < len)
  kid_within i s None e = tt
  kid_within i s (Some j) e = (kid_range i s j (sym e)).1

  -- a path leads to a node in range
  range_from : (i : ℕ) (q : List Seg) (j : ℕ) → i < len → walk kids i q ≡ Some j → j < len
  range_from i [] j within led = omega (arith, same_Some i j led, within)
  range_from i (s ∷ q) j within led = by (child_in (kids i) s) refl led (λ k. range_from k q j)
    where
      by : (o : Option ℕ) → child_in (kids i) s ≡ o → option_and_then (λ k. walk kids k q) o ≡ Some j
          → ((k : ℕ) → k < len → walk kids k q ≡ Some j → j < len) → j < len
      by None e led each = absurd cc
      by (Some k) e led each = each k (kid_range i s k e).1 led

  pub node_range : (q : List Seg) (j : ℕ) → walk kids 0 q ≡ Some j → j < len
  node_range q j led = range_from 0 q j is.rooted led

  -- and to one whose number is not lower
  rise_from : (i : ℕ) (q : List Seg) (j : ℕ) → walk kids i q ≡ Some j → i ≤ j
  rise_from i [] j led = omega (arith, same_Some i j led)
  rise_from i (s ∷ q) j led = by (child_in (kids i) s) refl led (λ k. rise_from k q j)
    where
      by : (o : Option ℕ) → child_in (kids i) s ≡ o → option_and_then (λ k. walk kids k q) o ≡ Some j
          → ((k : ℕ) → walk kids k q ≡ Some j → k ≤ j) → i ≤ j
      by None e led each = absurd cc
      by (Some k) e led each = omega (arith, each k led, (kid_range i s k e).0)

  -- a shorter front leads to a node before it
  pub front_led : (path : List Seg) (e d i : ℕ) → e ≤ d → walk kids 0 (take d path) ≡ Some i
      → (j : ℕ) × (walk kids 0 (take e path) ≡ Some j) × (j ≤ i)
  front_led path e d i less led = by (walk kids 0 (take e path)) refl
      (sym (ap (walk kids 0) (sym (take-append-drop e (take d path)) ∙ ap (λ q. q ++ drop e (take d path)) (take-take e d path less))
      ∙ walk_append kids 0 (take e path) (drop e (take d path))) ∙ led)
    where
      by : (o : Option ℕ) → walk kids 0 (take e path) ≡ o
          → option_and_then (λ j. walk kids j (drop e (take d path))) o ≡ Some i
          → (j : ℕ) × (walk kids 0 (take e path) ≡ Some j) × (j ≤ i)
      by None here found = absurd cc
      by (Some j) here found = (j, here, rise_from j (drop e (take d path)) i found)

  pub node_within : (q : List Seg) (o : Option ℕ) → o ≡ walk kids 0 q → IfSome o (λ j. j < len)
  node_within q None e = tt
  node_within q (Some j) e = node_range q j (sym e)

  -- a node's label is the path that leads to it
  label_walk : (i : ℕ) (q : List Seg) (j : ℕ) → walk kids i q ≡ Some j → is.label j ≡ is.label i ++ q
  label_walk i [] j led = ap is.label (sym (same_Some i j led)) ∙ sym (append-nil (is.label i))
  label_walk i (s ∷ q) j led = by (child_in (kids i) s) refl led (λ k. label_walk k q j)
    where
      by : (o : Option ℕ) → child_in (kids i) s ≡ o → option_and_then (λ k. walk kids k q) o ≡ Some j
          → ((k : ℕ) → walk kids k q ≡ Some j → is.label j ≡ is.label k ++ q) → is.label j ≡ is.label i ++ s ∷ q
      by None e led each = absurd cc
      by (Some k) e led each = each k led ∙ ap (λ l. l ++ q) (is.labelled.below i k s e) ∙ append_assoc (is.label i) (s ∷ []) q

  pub one_path : (p q : List Seg) (j : ℕ) → walk kids 0 p ≡ Some j → walk kids 0 q ≡ Some j → q ≡ p
  one_path p q j a b = sym (label_walk 0 q j b ∙ ap (λ l. l ++ q) is.labelled.root) ∙ label_walk 0 p j a ∙ ap (λ l. l ++ p) is.labelled.root

  pub put_path : {X : Type 0} (part after : ℕ → Option X) (p : List Seg) (j : ℕ) (x : Option X) → walk kids 0 p ≡ Some j
      → ((k : ℕ) → after k ≡ cond (k == j) x (part k)) → (q : List Seg) →
      option_and_then after (walk kids 0 q) ≡ cond (eq_by_cmp path_cmp q p) x (option_and_then part (walk kids 0 q))
  put_path part after p j x led sets q = by (walk kids 0 q) refl
    where
      same : eq_by_cmp path_cmp q p ≡ true → walk kids 0 q ≡ Some j
      same e = ap (walk kids 0) (tells_apart exact_paths q p e) ∙ led

      by : (o : Option ℕ) → walk kids 0 q ≡ o
          → option_and_then after o ≡ cond (eq_by_cmp path_cmp q p) x (option_and_then part o)
      by None e = sym (ap (λ b. cond b x None) (false_from_ne_true (eq_by_cmp path_cmp q p) (λ h. let there = same h in absurd cc)))
      by (Some k) e = sets k ∙ elim (cases_Bool (eq_by_cmp path_cmp q p)) [
        | inl h ↦ ap (λ b. cond b x (part k)) (eq-eqb k j (same_Some k j (sym e ∙ same h)) ∙ sym h)
        | inr h ↦ ap (λ b. cond b x (part k)) (ne_eqb k j (λ here. absurd (false≢true (sym h ∙ tied q (one_path p q j led (e ∙ ap Some here))))) ∙ sym h)
      ]
        where
          tied : (r : List Seg) → r ≡ p → eq_by_cmp path_cmp r p ≡ true
          tied r e = ap (λ l. eq_by_cmp path_cmp l p) e ∙ ap is_eq (tied_itself paths_total p)
