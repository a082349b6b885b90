-- The ways up from nodes. Those of one node more come from its parent's (`steps_more`, `edged_more`), and they stay right
-- where paths lead where they led (`steps_kept`, `ways_kept`).
use Rattle.std.proofs.Common.{◌≡◌, ℕ, zero, suc, ◌+◌, ◌<◌, ◌≤◌, true, List, [], ◌∷◌, ◌++◌, length, take, get_or, Some}
use Rattle.std.proofs.Common.{◌⊎◌, inl, inr, sym, ap, subst, ◌∙◌, arith, length-append}
use Rattle.std.proofs.lemmas.Bool.{cases_lt}
use Rattle.std.proofs.lemmas.List.{get_or_append_left, get_or_push, get_or_past}
use Rattle.std.proofs.lemmas.Option.{same_Some}
use Rattle.aml_names.specs.declared.segments.Seg.{Seg}
use Rattle.aml_space.specs.declared.nodes.Node.{Node}
use Rattle.aml_space.specs.declared.edges.Edges.{Edges}
use Rattle.aml_space.specs.declared.ways.Ways.{Ways}
use Rattle.aml_children.specs.Numbered.{walk}
use Rattle.aml_space.specs.Nodes.{kids_of, links_of, IsIndex, IsKept}
use Rattle.aml_space.specs.Edges.{has_edge}
use Rattle.aml_space.specs.Candidates.{IsOver, AreSteps, AreEdged, AreWays}
use Rattle.aml_space.proofs.Levels.{led_above, step_above}
use Rattle.aml_children.proofs.Walks.{kid_range}

module _ (ns : List Node) (is : IsIndex ns) (steps : List ℕ) (are : AreSteps ns steps) (new : ℕ) where
  abbrev at : ℕ
  at = length steps

  abbrev more : List ℕ
  more = steps ++ new ∷ []

  -- what is read of a node with one more
  read : (i : ℕ) → (get_or more i i ≡ get_or steps i i) ⊎ ((i ≡ at) × (get_or more i i ≡ new))
  read i = elim (cases_lt i at) [
    | inl less ↦ inl (get_or_append_left steps (new ∷ []) i i less)
    | inr past ↦ elim (cases_lt at i) [
      | inl far ↦ inl (get_or_past more i i (omega (arith, far, length-append steps (new ∷ []))) ∙ sym (get_or_past steps i i past))
      | inr near ↦ inr (omega (arith, past, near), get_or_push steps new i i (omega (arith, past, near)))
    ]
  ]

  all : new ≤ at → at < length ns → ((path : List Seg) (d : ℕ) → d ≤ length path → walk (kids_of ns) 0 (take d path) ≡ Some at → IsOver ns path d new)
      → AreSteps ns more
  all least within here = record {
    long = omega (arith, within, length-append steps (new ∷ []));
    low = λ i inside. elim (read i) [
      | inl same ↦ subst (λ n. n ≤ i) (sym same) (are.low i inside)
      | inr last ↦ omega (arith, last.0, last.1, least)
    ];
    each = λ i path d long led. elim (read i) [
      | inl same ↦ subst (IsOver ns path d) (sym same) (are.each i path d long led)
      | inr last ↦ subst (IsOver ns path d) (sym last.1) (here path d long (led ∙ ap (λ (n : ℕ). Some n) last.0))
    ];
  }

  -- another one, from what is kept of its parent
  pub steps_more : (up middle : ℕ) → 0 < at → at < length ns → up ≡ (links_of ns at).0 → middle ≡ get_or steps up up
      → (new ≡ up) ⊎ (new ≡ get_or steps middle middle) → AreSteps ns more
  steps_more up middle some within parent over leads = all (omega (arith, least, lower)) within here
    where
      lower : up < at
      lower = omega (arith, parent, is.linked.lower at some within)

      least : new ≤ up
      least = elim leads [
        | inl same ↦ omega (arith, same)
        | inr far ↦
            let near = are.low up (omega (arith, lower, within)) in
            let next = are.low middle (omega (arith, lower, within, over, near)) in
            omega (arith, far, over, near, next)
      ]

      here : (path : List Seg) (d : ℕ) → d ≤ length path → walk (kids_of ns) 0 (take d path) ≡ Some at → IsOver ns path d new
      here path zero long led = absurd (omega (arith, some, same_Some 0 at led))
      here path (suc d) long led =
          let inside : d < length path = omega (arith, long) in
          let deep : walk (kids_of ns) 0 (take (d + 1) path) ≡ Some at =
          ap (λ n. walk (kids_of ns) 0 (take n path)) {x = d + 1} {y = suc d} (omega arith) ∙ led in
          let up_led : walk (kids_of ns) 0 (take d path) ≡ Some up = led_above ns is path d at inside deep ∙ ap (λ (i : ℕ). Some i) (sym parent) in
          elim leads [
            | inl same ↦ (d, omega arith, up_led ∙ ap (λ (i : ℕ). Some i) (sym same))
            | inr far ↦
                let near = are.each up path d (omega (arith, inside)) up_led in
                let next = are.each middle path near.0 (omega (arith, near.1, inside)) (near.2 ∙ ap (λ (i : ℕ). Some i) (sym over)) in
                (next.0, omega (arith, next.1, near.1), next.2 ∙ ap (λ (i : ℕ). Some i) (sym far))
          ]

-- whose child the next node is, kept beside those before it
pub edged_more : (ns : List Node) (n : ℕ) (edges more : Edges) (l : ℕ × Seg) → IsIndex ns → l ≡ links_of ns n → AreEdged ns n edges
    → ((s : Seg) (p : ℕ) → has_edge edges s p ≡ true → has_edge more s p ≡ true) → has_edge more l.1 l.0 ≡ true
    → AreEdged ns (n + 1) more
edged_more ns n edges more l is link are old new q s i j here there less = elim (cases_lt j n) [
  | inl before ↦ old s i (are q s i j here there before)
  | inr last ↦
      let up = step_above ns is [] q s j there in
      let this : n ≡ j = omega (arith, last, less) in
      let whole : l ≡ (i, s) = link ∙ ap (links_of ns) this ∙ is.linked.below up.0 j s up.2
      ∙ ap (λ (k : ℕ). (k, s)) (same_Some up.0 i (sym up.1 ∙ here)) in
      subst (λ (k : ℕ × Seg). has_edge more k.1 k.0 ≡ true) whole new
]

-- the root is no child
pub edged_root : (ns : List Node) (edges : Edges) → IsIndex ns → AreEdged ns 1 edges
edged_root ns edges is q s i j here there less =
    let up = step_above ns is [] q s j there in
    let range = kid_range is.shape up.0 s j up.2 in
    absurd (omega (arith, range.0, less))

pub steps_kept : (old new : List Node) (steps : List ℕ) → IsKept old new → AreSteps old steps → AreSteps new steps
steps_kept old new steps kept are = record {
  long = omega (arith, are.long, kept.long);
  low = λ i within. elim (cases_lt i (length steps)) [
    | inl less ↦ are.low i (omega (arith, less, are.long))
    | inr past ↦ let none = get_or_past steps i i past in omega (arith, none)
  ];
  each = λ i path d within led. elim (cases_lt i (length steps)) [
    | inl less ↦
        let over = are.each i path d within (kept.back (take d path) i (omega (arith, less, are.long)) led) in
        (over.0, over.1, kept.there (take over.0 path) _ over.2)
    | inr past ↦ (d, omega arith, led ∙ ap (λ (n : ℕ). Some n) (sym (get_or_past steps i i past)))
  ];
}

pub ways_kept : (old new : List Node) (w : Ways) → IsIndex old → IsKept old new → AreWays old w → AreWays new w
ways_kept old new w is kept are = record {
  steps = steps_kept old new w.steps.items kept are.steps;
  edged = λ q s i j here there less.
      let before = kept.back (q ++ s ∷ []) j (omega (arith, less, are.steps.long)) there in
      let up = step_above old is [] q s j before in
      subst (λ n. has_edge w.edges s n ≡ true) (same_Some up.0 i (sym (kept.there q up.0 up.1) ∙ here)) (are.edged q s up.0 j up.1 before less);
}

-- with the same steps in another room
pub same_ways : (ns : List Node) (w v : Ways) → v.steps.items ≡ w.steps.items → v.edges ≡ w.edges → AreWays ns w → AreWays ns v
same_ways ns w v steps edges are = record {
  steps = subst (AreSteps ns) (sym steps) are.steps;
  edged = λ q s i j here there less. subst (λ e. has_edge e s i ≡ true) (sym edges)
      (are.edged q s i j here there (subst (λ ss. j < length ss) steps less));
}
