-- The path of a node is that of its parent, and the segment by which it is a child there (`path_on`). So it is the path
-- that leads to the node (`path_led`), and it is read from the node up (`step_up`).
use Rattle.std.proofs.Common.{◌≡◌, ℕ, zero, suc, ◌+◌, ◌-◌, ◌<◌, ◌≤◌, List, [], ◌∷◌, ◌++◌, length, take, drop, Option}
use Rattle.std.proofs.Common.{Some, None, inl, inr, refl, sym, ap, subst, ◌∙◌, arith, append_assoc, length-append}
use Rattle.std.specs.Option.{option_and_then}
use Rattle.std.proofs.lemmas.Bool.{cases_lt}
use Rattle.std.proofs.lemmas.List.{append-nil, drop-take, length-take, length-take-le}
use Rattle.std.proofs.Math.Seq.{drop-length}
use Rattle.std.proofs.lemmas.Option.{same_Some}
use Rattle.aml_names.specs.declared.segments.Seg.{Seg}
use Rattle.aml_children.specs.Children.{child_in}
use Rattle.aml_space.specs.declared.nodes.Node.{Node}
use Rattle.aml_children.specs.Numbered.{walk, segs_down, links_up}
use Rattle.aml_space.specs.Nodes.{kids_of, links_of, depths_of, path_of, IsIndex}
use Rattle.aml_children.proofs.Visiting.{links_on}
use Rattle.aml_children.proofs.Walks.{kid_range, node_range}

-- only the root has no segments
pub not_root : (ns : List Node) (j : ℕ) → 0 < length (path_of ns j) → 0 < j
not_root ns zero some = absurd (omega (arith, some))
not_root ns (suc j) some = omega arith

-- a path is no longer than its node's number
segs_length : (ls : List (ℕ × Seg)) → length (segs_down ls) ≡ length ls
segs_length [] = refl
segs_length (l ∷ ls) = length-append (segs_down ls) (l.1 ∷ []) ∙ omega (arith, segs_length ls)

links_short : (link : ℕ → ℕ × Seg) (n i : ℕ) → length (links_up link n i) ≤ n
links_short link zero i = omega arith
links_short link (suc n) zero = omega arith
links_short link (suc n) (suc i) = omega (arith, links_short link n (link (suc i)).0)

pub path_short : (ns : List Node) (j : ℕ) → length (path_of ns j) ≤ j
path_short ns j = subst (λ n. n ≤ j) (sym (segs_length (links_up (links_of ns) j j))) (links_short (links_of ns) j j)

-- so many last segments of a front are those from a place on
pub last_part : (p : List Seg) (from n : ℕ) (front : List Seg) → n ≤ length p - from
    → front ≡ take (length p - (length p - from - n)) p
    → drop (length front - n) front ≡ take n (drop from p)
last_part p from n front few is = elim (cases_lt (length p) (from + n)) [
  | inl past ↦ ap (λ m. drop m front) {x = length front - n} {y = length front} (omega (arith, none past)) ∙ drop-length front ∙ sym (ap (λ m. take m (drop from p)) (none past))
  | inr within ↦
      let same : front ≡ take (from + n) p = is ∙ ap (λ m. take m p) {y = from + n} (omega (arith, few, within)) in
      let long : length front - n ≡ from = ap (λ q. length q - n) same ∙ ap (λ m. m - n) (length-take (from + n) p) ∙ omega (arith, within) in
      (λ i. drop (long i) (same i)) ∙ drop-take from n p
]
  where
    none : length p < from + n → n ≡ 0
    none past = omega (arith, few, past)

module _ (ns : List Node) (is : IsIndex ns) where
  pub path_on : (j : ℕ) → 0 < j → j < length ns → path_of ns j ≡ path_of ns (links_of ns j).0 ++ (links_of ns j).1 ∷ []
  path_on j some within = ap segs_down (links_on is.shape (links_of ns) is.linked.lower j some within)

  -- a step up, with what was met so far: the segment stands in front of it
  pub step_up : (j : ℕ) (l : ℕ × Seg) (rest : List Seg) → 0 < j → j < length ns → l ≡ links_of ns j
      → path_of ns l.0 ++ l.1 ∷ rest ≡ path_of ns j ++ rest
  step_up j l rest some within here = sym (append_assoc (path_of ns l.0) (l.1 ∷ []) rest)
      ∙ ap (λ q. q ++ rest) (ap (λ (l : ℕ × Seg). path_of ns l.0 ++ l.1 ∷ []) here ∙ sym (path_on j some within))

  pub lower_up : (j : ℕ) (l : ℕ × Seg) → 0 < j → j < length ns → l ≡ links_of ns j → l.0 < j
  lower_up j l some within here = subst (λ (l : ℕ × Seg). l.0 < j) (sym here) (is.linked.lower j some within)

  pub one_longer : (j : ℕ) (l : ℕ × Seg) → 0 < j → j < length ns → l ≡ links_of ns j
      → length (path_of ns j) ≡ length (path_of ns l.0) + 1
  one_longer j l some within here = ap length (sym (step_up j l [] some within here ∙ append-nil (path_of ns j)))
      ∙ length-append (path_of ns l.0) (l.1 ∷ [])

  -- a path of one segment is that by which its node is a child
  pub only_segment : (j : ℕ) → j < length ns → length (path_of ns j) ≡ 1 → path_of ns j ≡ (links_of ns j).1 ∷ []
  only_segment j within one =
      let some = not_root ns j (omega (arith, one)) in
      let above : length (path_of ns (links_of ns j).0) ≡ 0 = omega (arith, one, one_longer j (links_of ns j) some within refl) in
      path_on j some within ∙ ap (λ q. q ++ (links_of ns j).1 ∷ []) (no_segment (path_of ns (links_of ns j).0) above)
    where
      no_segment : (q : List Seg) → length q ≡ 0 → q ≡ []
      no_segment [] none = refl
      no_segment (s ∷ q) none = absurd (omega (arith, none))

  led_on : (i : ℕ) (q : List Seg) (j : ℕ) → walk (kids_of ns) i q ≡ Some j → path_of ns j ≡ path_of ns i ++ q
  led_on i [] j led = ap (path_of ns) (sym (same_Some i j led)) ∙ sym (append-nil (path_of ns i))
  led_on i (s ∷ q) j led = by (child_in (kids_of ns i) s) refl led (λ k. led_on k q j)
    where
      by : (o : Option ℕ) → child_in (kids_of ns i) s ≡ o → option_and_then (λ k. walk (kids_of ns) k q) o ≡ Some j
          → ((k : ℕ) → walk (kids_of ns) k q ≡ Some j → path_of ns j ≡ path_of ns k ++ q)
          → path_of ns j ≡ path_of ns i ++ s ∷ q
      by None e led each = absurd cc
      by (Some k) e led each =
          let range = kid_range is.shape i s k e in
          each k led ∙ ap (λ l. l ++ q) (path_on k (omega (arith, range.0)) range.1
          ∙ ap (λ (l : ℕ × Seg). path_of ns l.0 ++ l.1 ∷ []) (is.linked.below i k s e)) ∙ append_assoc (path_of ns i) (s ∷ []) q

  pub path_led : (q : List Seg) (j : ℕ) → walk (kids_of ns) 0 q ≡ Some j → path_of ns j ≡ q
  path_led q j led = led_on 0 q j led

  -- so many segments has a front that leads to a node
  pub depth_led : (path : List Seg) (e i : ℕ) → e ≤ length path → walk (kids_of ns) 0 (take e path) ≡ Some i → depths_of ns i ≡ e
  depth_led path e i within led =
      is.deep i (node_range is.shape (take e path) i led) ∙ ap length (path_led (take e path) i led) ∙ length-take-le e path within
