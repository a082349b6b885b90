-- Nodes met one after the other, in the order of their paths. What a node and the nodes behind it have is what the node
-- has, and then what the next node and those behind it have (`one_on`); the next one is the first child, else the first
-- behind the node or behind a parent of it (`up_on`).
use Rattle.std.specs.Prelude.{IfSome}
use Rattle.std.proofs.Common.{◌≡◌, ℕ, zero, suc, ◌+◌, ◌<◌, ◌≤◌, Bool, true, false, cond, List, [], ◌∷◌, ◌++◌, Some}
use Rattle.std.proofs.Common.{refl, sym, ap, subst, ◌∙◌, arith, append_assoc}
use Rattle.std.specs.List.{flat_map}
use Rattle.std.specs.Option.{option_or}
use Rattle.std.specs.Ordering.{is_lt, is_eq, ordering_reverse}
use Rattle.std.specs.Cmp.{tied_itself}
use Rattle.std.specs.declared.cmp.Ordering.TheVariants.{Less}
use Rattle.aml_names.specs.declared.segments.Seg.{Seg}
use Rattle.aml_names.specs.Paths.{seg_cmp, segs_total}
use Rattle.aml_children.specs.declared.children.Child.{Child}
use Rattle.aml_children.specs.Children.{child_in, behind, first_node, IsBefore, Rise}
use Rattle.aml_children.specs.Numbered.{IsFamily, IsTree, visited, links_up, rest_at, later, ahead, first_behind, up}
use Rattle.aml_children.proofs.Family.{family_rises}
use Rattle.aml_children.proofs.Walks.{kid_range}

-- a child among others, and those behind it
record IsFollowed (cs : List Child) (c : Child) (rest : List Child) : Type 0 where
  below : child_in cs c.seg ≡ Some c.node
  after : behind c.seg cs ≡ rest

first_followed : (c : Child) (cs : List Child) → IsBefore c.seg cs → IsFollowed (c ∷ cs) c cs
first_followed c cs before = record {
  below = ap (λ b. cond b (Some c.node) (child_in cs c.seg)) (ap is_eq (tied_itself segs_total c.seg));
  after = ap (λ b. cond b (c ∷ cs) (behind c.seg cs)) (ap is_lt (tied_itself segs_total c.seg)) ∙ all cs before;
}
  where
    all : (cs : List Child) → IsBefore c.seg cs → behind c.seg cs ≡ cs
    all [] before = refl
    all (d ∷ cs) before = ap (λ b. cond b (d ∷ cs) (behind c.seg cs)) (ap is_lt before.0)

before_member : (s : Seg) (d : Child) (cs : List Child) (c : Child) (rest : List Child) → IsBefore d.seg cs
    → behind s cs ≡ c ∷ rest
    → seg_cmp d.seg c.seg ≡ Less
before_member s d [] c rest before is = absurd cc
before_member s d (e ∷ cs) c rest before is = by (is_lt (seg_cmp s e.seg)) is (before_member s d cs c rest before.1)
  where
    by : (b : Bool) → cond b (e ∷ cs) (behind s cs) ≡ c ∷ rest → (behind s cs ≡ c ∷ rest → seg_cmp d.seg c.seg ≡ Less)
        → seg_cmp d.seg c.seg ≡ Less
    by true is each = let same : e ≡ c = cc in ap (λ (x : Child). seg_cmp d.seg x.seg) (sym same) ∙ before.0
    by false is each = each is

next_behind : (s : Seg) (cs : List Child) (c : Child) (rest : List Child) → Rise cs → behind s cs ≡ c ∷ rest
    → IsFollowed cs c rest
next_behind s [] c rest rise is = absurd cc
next_behind s (d ∷ cs) c rest rise is = by (is_lt (seg_cmp s d.seg)) is (next_behind s cs c rest rise.1)
  where
    by : (b : Bool) → cond b (d ∷ cs) (behind s cs) ≡ c ∷ rest → (behind s cs ≡ c ∷ rest → IsFollowed cs c rest)
        → IsFollowed (d ∷ cs) c rest
    by true is each =
        let same : d ≡ c = cc in
        let others : cs ≡ rest = cc in
        subst (IsFollowed (d ∷ cs) c) others (subst (λ (e : Child). IsFollowed (d ∷ cs) e cs) same (first_followed d cs rise.0))
    by false is each =
        let there = each is in
        let more = segs_total.antisymm c.seg d.seg ∙ ap ordering_reverse (before_member s d cs c rest rise.0 is) in
        record {
          below = ap (λ b. cond b (Some d.node) (child_in cs c.seg)) (ap is_eq more) ∙ there.below;
          after = ap (λ b. cond b (d ∷ cs) (behind c.seg cs)) (ap is_lt more) ∙ there.after;
        }

module _ {len : ℕ} {kids : ℕ → List Child} (tree : IsTree len kids) where
  followed_at : (l : ℕ × Seg) (c : Child) (rest : List Child) → rest_at kids l ≡ c ∷ rest → IsFollowed (kids l.0) c rest
  followed_at l c rest is = next_behind l.1 (kids l.0) c rest (family_rises l.0 len (kids l.0) (tree.families l.0)) is

  pub first_within : (ls : List (ℕ × Seg)) → IfSome (first_behind kids ls) (λ j. j < len)
  first_within [] = tt
  first_within (l ∷ ls) = by (rest_at kids l) refl (first_within ls)
    where
      by : (cs : List Child) → rest_at kids l ≡ cs → IfSome (first_behind kids ls) (λ j. j < len)
          → IfSome (option_or (first_node cs) (first_behind kids ls)) (λ j. j < len)
      by [] is others = others
      by (c ∷ rest) is others = (kid_range tree l.0 c.seg c.node (followed_at l c rest is).below).1

  module _ (link : ℕ → ℕ × Seg) (lower : (j : ℕ) → 0 < j → j < len → (link j).0 < j) where
    none_up : (n : ℕ) → links_up link n 0 ≡ []
    none_up zero = refl
    none_up (suc n) = refl

    -- enough depth is any depth
    same_links : (n m i : ℕ) → i ≤ n → i ≤ m → i < len → links_up link n i ≡ links_up link m i
    same_links n m zero a b within = none_up n ∙ sym (none_up m)
    same_links zero m (suc i) a b within = absurd (omega (arith, a))
    same_links (suc n) zero (suc i) a b within = absurd (omega (arith, b))
    same_links (suc n) (suc m) (suc i) a b within =
        let less : (link (suc i)).0 < suc i = lower (suc i) (omega arith) within in
        ap (λ ls. link (suc i) ∷ ls) (same_links n m (link (suc i)).0 (omega (arith, less, a)) (omega (arith, less, b)) (omega (arith, less, within)))

    pub links_on : (j : ℕ) → 0 < j → j < len → links_up link j j ≡ link j ∷ links_up link (link j).0 (link j).0
    links_on zero some within = absurd (omega (arith, some))
    links_on (suc j) some within =
        let less : (link (suc j)).0 < suc j = lower (suc j) some within in
        ap (λ ls. link (suc j) ∷ ls) (same_links j (link (suc j)).0 (link (suc j)).0 (omega (arith, less)) (omega arith) (omega (arith, less, within)))

    -- one of those behind it below its parent, else behind its parent
    pub up_on : (j : ℕ) (l : ℕ × Seg) → 0 < j → j < len → l ≡ link j
        → up kids link j ≡ option_or (first_node (rest_at kids l)) (up kids link l.0)
    up_on j l some within is = ap (first_behind kids) (links_on j some within)
        ∙ ap (λ (l : ℕ × Seg). option_or (first_node (rest_at kids l)) (up kids link l.0)) (sym is)

    module _ {X : Type 0} (part : ℕ → List X) where
      all_below : ℕ → List Child → List X
      all_below n cs = flat_map (λ (c : Child). visited kids part n c.node) cs

      -- enough depth is any depth here too
      same_below : (n m i : ℕ) → len ≤ i + suc n → len ≤ i + suc m
          → ((j : ℕ) → len ≤ j + n → len ≤ j + m → j < len → visited kids part n j ≡ visited kids part m j)
          → (cs : List Child) → IsFamily i len cs → all_below n cs ≡ all_below m cs
      unfolding all_below
      same_below n m i a b each [] family = refl
      same_below n m i a b each (c ∷ cs) family =
          (λ t. each c.node (omega (arith, a, family.0)) (omega (arith, b, family.0)) family.1.0 t ++ same_below n m i a b each cs family.1.1.1 t)

      any_depth : (n m i : ℕ) → len ≤ i + n → len ≤ i + m → i < len → visited kids part n i ≡ visited kids part m i
      unfolding all_below
      any_depth zero m i a b within = absurd (omega (arith, a, within))
      any_depth (suc n) zero i a b within = absurd (omega (arith, b, within))
      any_depth (suc n) (suc m) i a b within = ap (λ es. part i ++ es) (same_below n m i a b (λ j. any_depth n m j) (kids i) (tree.families i))

      -- one node opened
      opened : (n i : ℕ) → len ≡ n → visited kids part n i ≡ part i ++ all_below n (kids i)
      unfolding all_below
      opened zero i is = absurd (omega (arith, is, tree.rooted))
      opened (suc n) i is =
          ap (λ es. part i ++ es) (same_below n (suc n) i (omega (arith, is)) (omega (arith, is)) (λ j. any_depth n (suc n) j) (kids i) (tree.families i))

      later_on : (j : ℕ) → 0 < j → j < len
          → later kids link part len j ≡ all_below len (rest_at kids (link j)) ++ later kids link part len (link j).0
      unfolding all_below
      later_on j some within = ap (flat_map (λ l. all_below len (rest_at kids l))) (links_on j some within)

      module _ (below : (i j : ℕ) (s : Seg) → child_in (kids i) s ≡ Some j → link j ≡ (i, s)) where
        -- some children of a node with all behind them: the first, those behind it, and those behind their parent
        from_first : (p : ℕ) (cs : List Child)
            → ((c : Child) (rest : List Child) → cs ≡ c ∷ rest → IsFollowed (kids p) c rest) →
            later kids link part len p ≡ ahead kids link part len (up kids link p) →
            all_below len cs ++ later kids link part len p ≡ ahead kids link part len (option_or (first_node cs) (up kids link p))
        unfolding all_below
        from_first p [] next above = above
        from_first p (c ∷ rest) next above =
            let first = next c rest refl in
            let range = kid_range tree p c.seg c.node first.below in
            append_assoc (visited kids part len c.node) (all_below len rest) (later kids link part len p)
            ∙ ap (λ es. visited kids part len c.node ++ es) (sym (later_on c.node (omega (arith, range.0)) range.1
            ∙ ap (λ (l : ℕ × Seg). all_below len (rest_at kids l) ++ later kids link part len l.0) (below p c.node c.seg first.below)
            ∙ ap (λ cs. all_below len cs ++ later kids link part len p) first.after))

        behind_all : (n i : ℕ) → i ≤ n → i < len
            → later kids link part len i ≡ ahead kids link part len (up kids link i)
        unfolding all_below
        behind_all n zero less within = refl
        behind_all zero (suc i) less within = absurd (omega (arith, less))
        behind_all (suc n) (suc i) less within =
            let l = link (suc i) in
            let lesser : l.0 < suc i = lower (suc i) (omega arith) within in
            later_on (suc i) (omega arith) within
            ∙ from_first l.0 (rest_at kids l) (λ c rest is. followed_at l c rest is)
            (behind_all n l.0 (omega (arith, lesser, less)) (omega (arith, lesser, within)))
            ∙ ap (ahead kids link part len) (sym (up_on (suc i) l (omega arith) within refl))

        -- a node, and those from the next one on
        pub one_on : (i : ℕ) → i < len → ahead kids link part len (Some i)
            ≡ part i ++ ahead kids link part len (option_or (first_node (kids i)) (up kids link i))
        unfolding all_below
        one_on i within =
            ap (λ es. es ++ later kids link part len i) (opened len i refl) ∙ append_assoc (part i) (all_below len (kids i)) (later kids link part len i)
            ∙ ap (λ es. part i ++ es) (from_first i (kids i) first (behind_all i i (omega arith) within))
          where
            first : (c : Child) (rest : List Child) → kids i ≡ c ∷ rest → IsFollowed (kids i) c rest
            first c rest is =
                let rise : Rise (c ∷ rest) = subst Rise is (family_rises i len (kids i) (tree.families i)) in
                subst (λ cs. IsFollowed cs c rest) (sym is) (first_followed c rest rise.0)
