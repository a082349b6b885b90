-- What is gathered below a node is what stands where the paths lead: a path is found among it as `walk` finds it
-- (`find_gather`), so the map of what is gathered at the root answers so (`get_gather`).
use Rattle.std.proofs.Common.{◌≡◌, ℕ, zero, suc, ◌+◌, ◌<◌, ◌≤◌, Bool, true, false, cond, List, [], ◌∷◌, ◌++◌}
use Rattle.std.proofs.Common.{map as map_list, Option, Some, None, refl, ap, ◌∙◌, arith}
use Rattle.std.specs.List.{flat_map}
use Rattle.std.specs.Option.{option_and_then, option_or}
use Rattle.std.specs.Ordering.{eq_by_cmp, ordering_then, is_eq}
use Rattle.std.specs.declared.cmp.Ordering.{Ordering}
use Rattle.std.specs.declared.cmp.Ordering.TheVariants.{Less, Equal, Greater}
use Rattle.std.proofs.lemmas.Map.Views.{tells_apart}
use Rattle.std.specs.FinMap as map
use Rattle.std.specs.FinMap.{find}
use Rattle.aml_names.specs.declared.segments.Seg.{Seg}
use Rattle.aml_names.specs.Paths.{seg_cmp, path_cmp, exact_segs, paths_total}
use Rattle.aml_children.specs.declared.children.Child.{Child}
use Rattle.aml_children.specs.Numbered.{walk, own, under, gather, IsFamily, IsTree}
use Rattle.aml_children.specs.Children.{child_in, IsBefore}
use Rattle.aml_children.proofs.Basics.{or_none}

module _ {X : Type 0} where
  find_join : (q : List Seg) (es fs : List (List Seg × X))
      → find path_cmp q (es ++ fs) ≡ option_or (find path_cmp q es) (find path_cmp q fs)
  find_join q [] fs = refl
  find_join q (e ∷ es) fs = elim (eq_by_cmp path_cmp q e.0) as (λ b. cond b (Some e.1) (find path_cmp q (es ++ fs))
      ≡ option_or (cond b (Some e.1) (find path_cmp q es)) (find path_cmp q fs)) [ true ↦ refl | false ↦ find_join q es fs ]

  -- at a path that begins with a segment
  find_under : (s t : Seg) (q : List Seg) (es : List (List Seg × X)) → find path_cmp (s ∷ q) (map_list (under t) es)
      ≡ cond (eq_by_cmp seg_cmp s t) (find path_cmp q es) None
  find_under s t q [] = no_find (eq_by_cmp seg_cmp s t)
    where
      no_find : (b : Bool) → ◌≡◌ {A = Option X} None (cond b None None)
      no_find true = refl
      no_find false = refl
  find_under s t q (e ∷ es) =
      step (seg_cmp s t) e.0 e.1 (find path_cmp (s ∷ q) (map_list (under t) es))
      ∙ ap (λ r. cond (eq_by_cmp seg_cmp s t) (cond (eq_by_cmp path_cmp q e.0) (Some e.1) r) r) (find_under s t q es)
      ∙ again (eq_by_cmp seg_cmp s t) (find path_cmp q es) (eq_by_cmp path_cmp q e.0) e.1
    where
      step : (o : Ordering) (p : List Seg) (x : X) (r : Option X)
          → cond (is_eq (ordering_then o (path_cmp q p))) (Some x) r
          ≡ cond (is_eq o) (cond (eq_by_cmp path_cmp q p) (Some x) r) r
      step Less p x r = refl
      step Equal p x r = refl
      step Greater p x r = refl

      again : (b : Bool) (r : Option X) (c : Bool) (x : X)
          → cond b (cond c (Some x) (cond b r None)) (cond b r None) ≡ cond b (cond c (Some x) r) None
      again true r c x = refl
      again false r c x = refl

  -- the root's path is none of those below
  find_root_under : (t : Seg) (es : List (List Seg × X)) → find path_cmp [] (map_list (under t) es) ≡ None
  find_root_under t [] = refl
  find_root_under t (e ∷ es) = find_root_under t es

-- a segment that comes before some children is none of theirs
pub none_before : (s t : Seg) (cs : List Child) → IsBefore t cs → eq_by_cmp seg_cmp s t ≡ true → child_in cs s ≡ None
none_before s t [] before same = refl
none_before s t (c ∷ cs) before same =
    let here : eq_by_cmp seg_cmp s c.seg ≡ false = ap (λ r. eq_by_cmp seg_cmp r c.seg) (tells_apart exact_segs s t same) ∙ ap is_eq before.0 in
    ap (λ b. cond b (Some c.node) (child_in cs s)) here ∙ none_before s t cs before.1 same

module _ {X : Type 0} {len : ℕ} {kids : ℕ → List Child} (is : IsTree len kids) (part : ℕ → Option X) where
  abbrev below : ℕ → List Child → List (List Seg × X)
  below n cs = flat_map (λ (c : Child). map_list (under c.seg) (gather kids part n c.node)) cs

  root_below : (n : ℕ) (cs : List Child) → find path_cmp [] (below n cs) ≡ None
  root_below n [] = refl
  root_below n (c ∷ cs) = find_join [] (map_list (under c.seg) (gather kids part n c.node)) (below n cs)
      ∙ ap (λ o. option_or o (find path_cmp [] (below n cs))) (find_root_under c.seg (gather kids part n c.node)) ∙ root_below n cs

  own_root : (o : Option X) (es : List (List Seg × X)) → find path_cmp [] es ≡ None → find path_cmp [] (own o ++ es) ≡ o
  own_root None es none = none
  own_root (Some x) es none = refl

  own_later : (o : Option X) (es : List (List Seg × X)) (s : Seg) (q : List Seg)
      → find path_cmp (s ∷ q) (own o ++ es) ≡ find path_cmp (s ∷ q) es
  own_later None es s q = refl
  own_later (Some x) es s q = refl

  -- what stands where a path leads from a child
  abbrev from : List Seg → Option ℕ → Option X
  from q o = option_and_then part (option_and_then (λ j. walk kids j q) o)

  pick : (q : List Seg) (b : Bool) (x r : Option X) (j : ℕ) (o : Option ℕ)
      → (b ≡ true → (r ≡ None) × (x ≡ from q (Some j))) → r ≡ from q o →
      option_or (cond b x None) r ≡ from q (cond b (Some j) o)
  pick q true x r j o at other = ap (option_or x) (at refl).0 ∙ or_none x ∙ (at refl).1
  pick q false x r j o at other = other

  find_child : (n i : ℕ) → len ≤ i + suc n
      → ((j : ℕ) → len ≤ j + n → j < len → (q : List Seg) → find path_cmp q (gather kids part n j) ≡ from q (Some j)) →
      (s : Seg) (q : List Seg) (cs : List Child) → IsFamily i len cs → find path_cmp (s ∷ q) (below n cs) ≡ from q (child_in cs s)
  find_child n i enough each s q [] family = refl
  find_child n i enough each s q (c ∷ cs) family =
      let rest = find_child n i enough each s q cs family.1.1.1 in
      find_join (s ∷ q) (map_list (under c.seg) (gather kids part n c.node)) (below n cs)
      ∙ ap (λ o. option_or o (find path_cmp (s ∷ q) (below n cs))) (find_under s c.seg q (gather kids part n c.node))
      ∙ pick q (eq_by_cmp seg_cmp s c.seg) _ _ c.node (child_in cs s) (λ same. (
        rest ∙ ap (from q) (none_before s c.seg cs family.1.1.0 same),
        each c.node (omega (arith, enough, family.0)) family.1.0 q,
      )) rest

  find_gather : (n i : ℕ) → len ≤ i + n → i < len → (q : List Seg)
      → find path_cmp q (gather kids part n i) ≡ from q (Some i)
  find_gather zero i enough within q = absurd (omega (arith, enough, within))
  find_gather (suc n) i enough within [] = own_root (part i) (below n (kids i)) (root_below n (kids i))
  find_gather (suc n) i enough within (s ∷ q) =
      own_later (part i) (below n (kids i)) s q ∙ find_child n i enough (find_gather n) s q (kids i) (is.families i)

  -- the map of what is gathered
  pub get_gather : (q : List Seg) → map.get (map.from_entries {R = path_cmp} (gather kids part len 0)) q ≡ option_and_then part (walk kids 0 q)
  get_gather q = map.get-from_entries paths_total _ q ∙ find_gather len 0 (omega arith) is.rooted q
