-- An index with an empty node more is an index, and knows the same (`grown_index`, `grown_known`): each path leads
-- where it led, or, where it led nowhere, maybe to the new node, at which nothing is kept (`grown_walk`).
use Rattle.std.specs.Prelude.{◌==◌, ◌&&◌}
use Rattle.std.proofs.Common.{◌≡◌, ℕ, zero, suc, ◌+◌, ◌<◌, ◌≤◌, ◌^◌, Bool, true, false, cond, List, [], ◌∷◌, ◌++◌}
use Rattle.std.proofs.Common.{length, Option, Some, None, ◌⊎◌, inl, inr, refl, sym, ap, subst, ◌∙◌, arith}
use Rattle.std.proofs.Common.{length-append, IfSome, drop}
use Rattle.std.specs.Option.{option_and_then, option_map}
use Rattle.std.specs.Ordering.{eq_by_cmp}
use Rattle.std.specs.FinMap as map
use Rattle.std.proofs.lemmas.Bool.{cases_lt, ne_eqb, eq-eqb, and_parts, and_from}
use Rattle.std.proofs.lemmas.Option.{none-some, same_Some, slice_get_past}
use Rattle.std.proofs.lemmas.Map.Views.{tells_apart, exact_unsigned_eq}
use Rattle.aml_names.specs.declared.segments.Seg.{Seg}
use Rattle.aml_names.specs.Paths.{seg_cmp, paths_total, exact_paths, exact_segs}
use Rattle.aml_children.specs.declared.children.Child.{Child}
use Rattle.aml_children.specs.Children.{child_in, put}
use Rattle.aml_space.specs.declared.nodes.Node.{Node}
use Rattle.aml_children.specs.Numbered.{walk, IsFamily, links_up, segs_down}
use Rattle.aml_space.specs.Nodes.{Content, nothing, kids_in, kids_of, links_of, depths_of, path_of, content_in}
use Rattle.aml_space.specs.Nodes.{content_of, part_by, known_by, IsShape, IsLinked, IsIndex, IsKept, AreAmong, paths_in}
use Rattle.aml_space.specs.Nodes.{said_by, said_in}
use Rattle.aml_children.proofs.Family.{same_itself, found_put, wider_family, family_put}
use Rattle.aml_space.proofs.Index.{part_at}
use Rattle.aml_children.proofs.Walks.{kid_range, node_range, walk_push}
use Rattle.aml_children.proofs.Visiting.{links_on}
use Rattle.aml_space.proofs.Targets.{among_more, grown_paths, paths_long, said_grown}
use Rattle.aml_namespace.specs.declared.kinds.Kind.{Kind as KindOf}
use Rattle.aml_namespace.specs.Known.{Said}

-- new has the nodes of old and an empty one after them, a child of node i
pub record HasGrown (old new : List Node) (i : ℕ) (seg : Seg) : Type 0 where
  pub long : length new ≡ length old + 1
  pub kids : (k : ℕ) → k < length old → kids_of new k ≡ cond (k == i)
      (put (kids_of old i) (record { seg = seg; node = length old })) (kids_of old k)
  pub leaf : kids_of new (length old) ≡ []
  pub links : (k : ℕ) → k < length old → links_of new k ≡ links_of old k
  pub new_link : links_of new (length old) ≡ (i, seg)
  pub depths : (k : ℕ) → k < length old → depths_of new k ≡ depths_of old k
  pub new_depth : depths_of new (length old) ≡ depths_of old i + 1
  pub contents : (k : ℕ) → k < length old → content_of new k ≡ content_of old k
  pub no_content : content_of new (length old) ≡ nothing

module _ (ns new : List Node) (i : ℕ) (seg : Seg) (is : IsIndex ns) (within : i < length ns) (room : length ns < 2 ^ 32)
    (absent : child_in (kids_of ns i) seg ≡ None)
    (has : HasGrown ns new i seg) where
  abbrev added : Child
  added = record { seg = seg; node = length ns }

  grows : (k : ℕ) (s : Seg) → k < length ns → child_in (kids_of new k) s
      ≡ cond (k == i && eq_by_cmp seg_cmp s seg) (Some (length ns)) (child_in (kids_of ns k) s)
  grows k s inside = ap (λ cs. child_in cs s) (has.kids k inside) ∙ by (k == i) refl
    where
      by : (b : Bool) → (k == i) ≡ b → child_in (cond b (put (kids_of ns i) added) (kids_of ns k)) s
          ≡ cond (b && eq_by_cmp seg_cmp s seg) (Some (length ns)) (child_in (kids_of ns k) s)
      by true here = found_put (kids_of ns i) added s absent ∙ ap (λ m. cond (eq_by_cmp seg_cmp s seg) (Some (length ns)) (child_in (kids_of ns m) s))
          (sym (exact_unsigned_eq k i here))
      by false here = refl

  no_kids : (k : ℕ) → length ns ≤ k → kids_of new k ≡ []
  no_kids k past = elim (cases_lt (length ns) k) [
    | inl far ↦ ap kids_in (slice_get_past new k (omega (arith, far, has.long)))
    | inr near ↦ ap (kids_of new) {x = k} {y = length ns} (omega (arith, near, past)) ∙ has.leaf
  ]

  -- a child is the new one, or was there
  kid : (k j : ℕ) (s : Seg) → child_in (kids_of new k) s ≡ Some j
      → ((k ≡ i) × (s ≡ seg) × (j ≡ length ns)) ⊎ ((k < length ns)
      × (child_in (kids_of ns k) s ≡ Some j))
  kid k j s found = elim (cases_lt k (length ns)) [
    | inl inside ↦ by inside (k == i && eq_by_cmp seg_cmp s seg) refl (sym (grows k s inside) ∙ found)
    | inr past ↦ absurd (none-some j (sym (ap (λ cs. child_in cs s) (no_kids k past)) ∙ found))
  ]
    where
      by : k < length ns → (b : Bool) → (k == i && eq_by_cmp seg_cmp s seg) ≡ b
          → cond b (Some (length ns)) (child_in (kids_of ns k) s) ≡ Some j →
          ((k ≡ i) × (s ≡ seg) × (j ≡ length ns)) ⊎ ((k < length ns) × (child_in (kids_of ns k) s ≡ Some j))
      by inside true here e =
          let h = and_parts (k == i) (eq_by_cmp seg_cmp s seg) here in
          inl (exact_unsigned_eq k i h.0, tells_apart exact_segs s seg h.1, sym (same_Some (length ns) j e))
      by inside false here e = inr (inside, e)

  families : (k : ℕ) → IsFamily k (length new) (kids_of new k)
  families k = subst (λ n. IsFamily k n (kids_of new k)) (sym has.long) (elim (cases_lt k (length ns)) [
    | inl inside ↦ subst (IsFamily k (length ns + 1)) (sym (has.kids k inside)) (by (k == i) refl)
    | inr past ↦ subst (IsFamily k (length ns + 1)) (sym (no_kids k past)) tt
  ])
    where
      by : (b : Bool) → (k == i) ≡ b → IsFamily k (length ns + 1) (cond b (put (kids_of ns i) added) (kids_of ns k))
      by true here = subst (λ m. IsFamily m (length ns + 1) (put (kids_of ns i) added)) (sym (exact_unsigned_eq k i here))
          (family_put i (length ns) (kids_of ns i) seg within (is.shape.families i) absent)
      by false here = wider_family k (length ns) (kids_of ns k) (is.shape.families k)

  label : ℕ → List Seg
  label k = cond (k == length ns) (is.shape.label i ++ seg ∷ []) (is.shape.label k)

  label_old : (k : ℕ) → k < length ns → label k ≡ is.shape.label k
  unfolding label
  label_old k inside = ap (λ b. cond b (is.shape.label i ++ seg ∷ []) (is.shape.label k)) (ne_eqb k (length ns) (omega (arith, inside)))

  label_new : label (length ns) ≡ is.shape.label i ++ seg ∷ []
  unfolding label
  label_new = ap (λ b. cond b (is.shape.label i ++ seg ∷ []) (is.shape.label (length ns))) (eq-eqb (length ns) (length ns) refl)

  label_below : (k j : ℕ) (s : Seg) → child_in (kids_of new k) s ≡ Some j → label j ≡ label k ++ s ∷ []
  label_below k j s found = elim (kid k j s found) [
    | inl w ↦ ap label w.2 ∙ label_new ∙ (λ t. is.shape.label (sym w.0 t) ++ sym w.1 t ∷ [])
        ∙ ap (λ l. l ++ s ∷ []) (sym (label_old k (omega (arith, w.0, within))))
    | inr w ↦ label_old j (kid_range is.shape k s j w.1).1 ∙ is.shape.labelled.below k j s w.1 ∙ ap (λ l. l ++ s ∷ []) (sym (label_old k w.0))
  ]

  shape : IsShape new
  shape = record {
    rooted = omega (arith, has.long);
    families = families;
    label = label;
    labelled = record { root = label_old 0 is.shape.rooted ∙ is.shape.labelled.root; below = label_below };
  }

  -- a path leads where it led, or, where that was nowhere, to the new node
  abbrev Grown : List Seg → Option ℕ → Option ℕ → Type 0
  Grown q after before =
      (option_and_then (λ j. walk (kids_of new) j q) after ≡ option_and_then (λ j. walk (kids_of ns) j q) before)
      ⊎ ((option_and_then (λ j. walk (kids_of ns) j q) before ≡ None) × (option_and_then (λ j. walk (kids_of new) j q) after ≡ Some (length ns)))

  at_end : (q : List Seg) (o : Option ℕ) → o ≡ None → Grown q (Some (length ns)) o
  at_end [] o gone = inr (ap (option_and_then (λ j. Some j)) gone, refl)
  at_end (t ∷ q) o gone = inl (ap (λ cs. option_and_then (λ j. walk (kids_of new) j q) (child_in cs t)) has.leaf
      ∙ sym (ap (option_and_then (λ j. walk (kids_of ns) j (t ∷ q))) gone))

  grown_walk : (k : ℕ) (q : List Seg) → k < length ns → Grown q (Some k) (Some k)
  grown_walk k [] inside = inl refl
  grown_walk k (s ∷ q) inside =
      subst (λ o. Grown q o (child_in (kids_of ns k) s)) (sym (grows k s inside)) (by _ refl (child_in (kids_of ns k) s) refl (λ j. grown_walk j q))
    where
      by : (b : Bool) → (k == i && eq_by_cmp seg_cmp s seg) ≡ b → (o : Option ℕ) → child_in (kids_of ns k) s ≡ o →
          ((j : ℕ) → j < length ns → Grown q (Some j) (Some j)) → Grown q (cond b (Some (length ns)) o) o
      by true here o e each =
          let h = and_parts (k == i) (eq_by_cmp seg_cmp s seg) here in
          at_end q o (sym e ∙ (λ t. child_in (kids_of ns (exact_unsigned_eq k i h.0 t)) (tells_apart exact_segs s seg h.1 t)) ∙ absent)
      by false here None e each = inl refl
      by false here (Some j) e each = each j (kid_range is.shape k s j e).1

  pub still : (q : List Seg) (j : ℕ) → walk (kids_of ns) 0 q ≡ Some j → walk (kids_of new) 0 q ≡ Some j
  still q j led = elim (grown_walk 0 q is.shape.rooted) [
    | inl same ↦ same ∙ led
    | inr w ↦ absurd (none-some j (sym w.0 ∙ led))
  ]

  back : (q : List Seg) (j : ℕ) → j < length ns → walk (kids_of new) 0 q ≡ Some j → walk (kids_of ns) 0 q ≡ Some j
  back q j old led = elim (grown_walk 0 q is.shape.rooted) [
    | inl same ↦ sym same ∙ led
    | inr w ↦ absurd (omega (arith, old, same_Some (length ns) j (sym w.1 ∙ led)))
  ]

  pub grown_kept : IsKept ns new
  grown_kept = record { there = still; back = back; long = omega (arith, has.long) }

  lower : (j : ℕ) → 0 < j → j < length new → (links_of new j).0 < j
  lower j some range = elim (cases_lt j (length ns)) [
    | inl inside ↦ subst (λ (l : ℕ × Seg). l.0 < j) (sym (has.links j inside)) (is.linked.lower j some inside)
    | inr past ↦
        let here : j ≡ length ns = omega (arith, past, range, has.long) in
        subst (λ (l : ℕ × Seg). l.0 < j) (sym (ap (links_of new) here ∙ has.new_link)) (omega (arith, within, here))
  ]

  linked : IsLinked new
  linked = record {
    below = λ k j s found. elim (kid k j s found) [
      | inl w ↦ ap (links_of new) w.2 ∙ has.new_link ∙ (λ t. (sym w.0 t, sym w.1 t))
      | inr w ↦ has.links j (kid_range is.shape k s j w.1).1 ∙ is.linked.below k j s w.1
    ];
    lower = lower;
  }

  targets : (k : ℕ) → IfSome (content_of new k).declared (AreAmong (length new))
  targets k = elim (cases_lt k (length ns)) [
    | inl inside ↦ subst (λ (c : Content). IfSome c.declared (AreAmong (length new))) (sym (has.contents k inside))
        (more (content_of ns k).declared (is.targets k))
    | inr past ↦ subst (λ (c : Content). IfSome c.declared (AreAmong (length new))) (sym (none k past)) tt
  ]
    where
      more : (o : Option (Said (KindOf ℕ))) → IfSome o (AreAmong (length ns)) → IfSome o (AreAmong (length new))
      more None among = tt
      more (Some d) among = among_more (length ns) (length new) (omega (arith, has.long)) d among

      none : (k : ℕ) → length ns ≤ k → content_of new k ≡ nothing
      none k past = elim (cases_lt (length ns) k) [
        | inl far ↦ ap content_in (slice_get_past new k (omega (arith, far, has.long)))
        | inr near ↦ ap (content_of new) {x = k} {y = length ns} (omega (arith, near, past)) ∙ has.no_content
      ]

  links_same : (n j : ℕ) → j < length ns → links_up (links_of new) n j ≡ links_up (links_of ns) n j
  links_same zero j inside = refl
  links_same (suc n) zero inside = refl
  links_same (suc n) (suc j) inside =
      let less = is.linked.lower (suc j) (omega arith) inside in
      (λ t. has.links (suc j) inside t ∷ links_up (links_of new) n (has.links (suc j) inside t).0)
      ∙ ap (λ ls. links_of ns (suc j) ∷ ls) (links_same n (links_of ns (suc j)).0 (omega (arith, less, inside)))

  same_path : (j : ℕ) → j < length ns → path_of new j ≡ path_of ns j
  same_path j inside = ap segs_down (links_same j j inside)

  new_path : path_of new (length ns) ≡ path_of ns i ++ seg ∷ []
  new_path = ap segs_down (links_on shape (links_of new) lower (length ns) (omega (arith, within)) (omega (arith, has.long)))
      ∙ ap (λ (l : ℕ × Seg). path_of new l.0 ++ l.1 ∷ []) has.new_link ∙ ap (λ q. q ++ seg ∷ []) (same_path i within)

  deep : (j : ℕ) → j < length new → depths_of new j ≡ length (path_of new j)
  deep j range = elim (cases_lt j (length ns)) [
    | inl inside ↦ has.depths j inside ∙ is.deep j inside ∙ ap length (sym (same_path j inside))
    | inr past ↦
        let here : j ≡ length ns = omega (arith, past, range, has.long) in
        ap (depths_of new) here ∙ has.new_depth ∙ ap (λ n. n + 1) (is.deep i within)
        ∙ sym (ap (λ k. length (path_of new k)) here ∙ ap length new_path ∙ length-append (path_of ns i) (seg ∷ []))
  ]

  pub new_child : child_in (kids_of new i) seg ≡ Some (length ns)
  new_child = grows i seg within ∙ ap (λ b. cond b (Some (length ns)) (child_in (kids_of ns i) seg)) (and_from _ _ (eq-eqb i i refl) (same_itself seg))

  there : (j : ℕ) → j < length new → walk (kids_of new) 0 (path_of new j) ≡ Some j
  there j range = elim (cases_lt j (length ns)) [
    | inl inside ↦ ap (walk (kids_of new) 0) (same_path j inside) ∙ still (path_of ns j) j (is.there j inside)
    | inr past ↦
        let here : j ≡ length ns = omega (arith, past, range, has.long) in
        ap (λ k. walk (kids_of new) 0 (path_of new k)) here ∙ ap (walk (kids_of new) 0) new_path ∙ walk_push (kids_of new) 0 (path_of ns i) seg
        ∙ ap (option_and_then (λ k. child_in (kids_of new k) seg)) (still (path_of ns i) i (is.there i within)) ∙ new_child
        ∙ ap (λ (n : ℕ). Some n) (sym here)
  ]

  pub grown_index : IsIndex new
  grown_index = record { shape = shape; linked = linked; targets = targets; there = there; deep = deep; few = omega (arith, has.long, room) }

  -- a part of the new nodes is one of the old ones where it is the same at each of these
  grown_part : {X : Type 0} (part before : Content → Option X) → part nothing ≡ None
      → ((k : ℕ) → part (content_of ns k) ≡ before (content_of ns k)) → part_by part new ≡ part_by before ns
  grown_part {X} part before none alike = map.same_map paths_total exact_paths _ _ (λ q. sym (part_at part new shape q) ∙ same q ∙ part_at before ns is.shape q)
    where
      old : (q : List Seg) (o : Option ℕ) → walk (kids_of ns) 0 q ≡ o →
          option_and_then (λ k. part (content_of new k)) o ≡ option_and_then (λ k. before (content_of ns k)) o
      old q None e = refl
      old q (Some k) e = ap part (has.contents k (node_range is.shape q k e)) ∙ alike k

      same : (q : List Seg) → option_and_then (λ k. part (content_of new k)) (walk (kids_of new) 0 q)
          ≡ option_and_then (λ k. before (content_of ns k)) (walk (kids_of ns) 0 q)
      same q = elim (grown_walk 0 q is.shape.rooted) [
        | inl kept ↦ ap (option_and_then (λ k. part (content_of new k))) kept ∙ old q _ refl
        | inr w ↦ ap (option_and_then (λ k. part (content_of new k))) w.1 ∙ ap part has.no_content ∙ none
            ∙ sym (ap (option_and_then (λ k. before (content_of ns k))) w.0)
      ]

  -- the paths of nodes stay, and with them those of Aliases' targets
  more_paths : (more : List (List Seg)) × (paths_in new ≡ paths_in ns ++ more)
  more_paths = (drop (length ns) (paths_in new), grown_paths ns new (omega (arith, has.long)) same_path)

  said_still : (k : ℕ) → said_by new (content_of ns k) ≡ said_by ns (content_of ns k)
  said_still k = by (content_of ns k).declared (is.targets k)
    where
      by : (o : Option (Said (KindOf ℕ))) → IfSome o (AreAmong (length ns))
          → option_map (said_in (paths_in new)) o ≡ option_map (said_in (paths_in ns)) o
      by None among = refl
      by (Some d) among = ap (λ paths. Some (said_in paths d)) more_paths.1
          ∙ ap Some (said_grown (paths_in ns) more_paths.0 d (subst (λ n. AreAmong n d) (sym (paths_long ns)) among))

  pub grown_known : known_by new ≡ known_by ns
  grown_known = λ t. record {
    declarations = grown_part (said_by new) (said_by ns) refl said_still t;
    outs = grown_part (λ c. c.out) (λ c. c.out) refl (λ k. refl) t;
    givens = grown_part (λ c. c.given) (λ c. c.given) refl (λ k. refl) t;
    paths = [];
  }
