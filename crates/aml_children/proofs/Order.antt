-- What is gathered stands in the order of its paths, children before those behind them (`rises_gather`). So it is the
-- list of entries of its map (`entries_of_rising`), and the entries of a map rise (`rises_from`).
use Rattle.std.specs.Prelude.{T, ◌&&◌}
use Rattle.std.proofs.Common.{◌≡◌, ℕ, zero, suc, Bool, true, false, List, [], ◌∷◌, ◌++◌, map as map_list, Option, Some}
use Rattle.std.proofs.Common.{None, refl, sym, ap, subst, ◌∙◌}
use Rattle.std.specs.List.{flat_map}
use Rattle.std.specs.Ordering.{ordering_then, is_lt}
use Rattle.std.specs.Cmp.{tied_itself}
use Rattle.std.specs.declared.cmp.Ordering.{Ordering}
use Rattle.std.specs.declared.cmp.Ordering.TheVariants.{Less, Equal, Greater}
use Rattle.std.specs.FinMap as map
use Rattle.std.specs.FinMap.{is_sorted}
use Rattle.std.specs.FinMap.Entries.{below_all}
use Rattle.aml_names.specs.declared.segments.Seg.{Seg}
use Rattle.aml_names.specs.Paths.{seg_cmp, path_cmp, segs_total, paths_total, exact_paths}
use Rattle.aml_children.specs.declared.children.Child.{Child}
use Rattle.aml_children.specs.Numbered.{own, under, gather, IsFamily, IsTree}
use Rattle.aml_children.specs.Children.{IsBefore}

same_seg : (s : Seg) (p q : List Seg) → path_cmp (s ∷ p) (s ∷ q) ≡ path_cmp p q
same_seg s p q = ap (λ o. ordering_then o (path_cmp p q)) (tied_itself segs_total s)

both : (a b : Bool) → T a → T b → T (a && b)
both true b p q = q
both false b p q = p

split : (a b : Bool) → T (a && b) → T a × T b
split true b h = (tt, h)
split false b h = absurd h

less_from : (o : Ordering) → T (is_lt o) → o ≡ Less
less_from Less h = refl
less_from Equal h = absurd h
less_from Greater h = absurd h

module _ {X : Type 0} where
  abbrev pub After : List Seg → List (List Seg × X) → Type 0
  After p [] = Unit {0}
  After p (e ∷ es) = (path_cmp p e.0 ≡ Less) × After p es

  abbrev pub Rises : List (List Seg × X) → Type 0
  Rises [] = Unit {0}
  Rises (e ∷ es) = After e.0 es × Rises es

  -- each of some entries comes before all of others
  abbrev Precede : List (List Seg × X) → List (List Seg × X) → Type 0
  Precede [] fs = Unit {0}
  Precede (e ∷ es) fs = After e.0 fs × Precede es fs

  after_join : (p : List Seg) (es fs : List (List Seg × X)) → After p es → After p fs → After p (es ++ fs)
  after_join p [] fs a b = b
  after_join p (e ∷ es) fs a b = (a.0, after_join p es fs a.1 b)

  rises_join : (es fs : List (List Seg × X)) → Rises es → Rises fs → Precede es fs → Rises (es ++ fs)
  rises_join [] fs a b p = b
  rises_join (e ∷ es) fs a b p = (after_join e.0 es fs a.0 p.0, rises_join es fs a.1 b p.1)

  after_under : (s : Seg) (p : List Seg) (es : List (List Seg × X)) → After p es → After (s ∷ p) (map_list (under s) es)
  after_under s p [] a = tt
  after_under s p (e ∷ es) a = (same_seg s p e.0 ∙ a.0, after_under s p es a.1)

  rises_under : (s : Seg) (es : List (List Seg × X)) → Rises es → Rises (map_list (under s) es)
  rises_under s [] r = tt
  rises_under s (e ∷ es) r = (after_under s e.0 es r.0, rises_under s es r.1)

  root_after : (s : Seg) (es : List (List Seg × X)) → After [] (map_list (under s) es)
  root_after s [] = tt
  root_after s (e ∷ es) = (refl, root_after s es)

  later_under : (s t : Seg) (p : List Seg) (es : List (List Seg × X)) → seg_cmp s t ≡ Less
      → After (s ∷ p) (map_list (under t) es)
  later_under s t p [] less = tt
  later_under s t p (e ∷ es) less = (ap (λ o. ordering_then o (path_cmp p e.0)) less, later_under s t p es less)

module _ {X : Type 0} {len : ℕ} {kids : ℕ → List Child} (is : IsTree len kids) (part : ℕ → Option X) where
  abbrev below : ℕ → List Child → List (List Seg × X)
  below n cs = flat_map (λ (c : Child). map_list (under c.seg) (gather kids part n c.node)) cs

  root_before : (n : ℕ) (cs : List Child) → After [] (below n cs)
  root_before n [] = tt
  root_before n (c ∷ cs) =
      after_join [] (map_list (under c.seg) (gather kids part n c.node)) (below n cs) (root_after c.seg (gather kids part n c.node)) (root_before n cs)

  before_below : (n : ℕ) (s : Seg) (p : List Seg) (cs : List Child) → IsBefore s cs → After (s ∷ p) (below n cs)
  before_below n s p [] before = tt
  before_below n s p (c ∷ cs) before = after_join (s ∷ p) (map_list (under c.seg) (gather kids part n c.node)) (below n cs)
      (later_under s c.seg p (gather kids part n c.node) before.0) (before_below n s p cs before.1)

  all_before : (n : ℕ) (s : Seg) (es : List (List Seg × X)) (cs : List Child) → IsBefore s cs
      → Precede (map_list (under s) es) (below n cs)
  all_before n s [] cs before = tt
  all_before n s (e ∷ es) cs before = (before_below n s e.0 cs before, all_before n s es cs before)

  rises_below : (n i : ℕ) → ((j : ℕ) → Rises (gather kids part n j)) → (cs : List Child) → IsFamily i len cs
      → Rises (below n cs)
  rises_below n i each [] family = tt
  rises_below n i each (c ∷ cs) family =
      rises_join (map_list (under c.seg) (gather kids part n c.node)) (below n cs) (rises_under c.seg (gather kids part n c.node) (each c.node))
      (rises_below n i each cs family.1.1.1) (all_before n c.seg (gather kids part n c.node) cs family.1.1.0)

  with_own : (o : Option X) (es : List (List Seg × X)) → After [] es → Rises es → Rises (own o ++ es)
  with_own None es a r = r
  with_own (Some x) es a r = (a, r)

  pub rises_gather : (n i : ℕ) → Rises (gather kids part n i)
  rises_gather zero i = tt
  rises_gather (suc n) i = with_own (part i) (below n (kids i)) (root_before n (kids i)) (rises_below n i (rises_gather n) (kids i) (is.families i))

-- the test of a map's order
module _ {X : Type 0} where
  test_after : (p : List Seg) (es : List (List Seg × X)) → After p es → T (below_all path_cmp p es)
  test_after p [] a = tt
  test_after p (e ∷ es) a = both _ _ (subst (λ o. T (is_lt o)) (sym a.0) tt) (test_after p es a.1)

  test_rises : (es : List (List Seg × X)) → Rises es → T (is_sorted path_cmp es)
  test_rises [] r = tt
  test_rises (e ∷ es) r = both _ _ (test_after e.0 es r.0) (test_rises es r.1)

  after_from : (p : List Seg) (es : List (List Seg × X)) → T (below_all path_cmp p es) → After p es
  after_from p [] h = tt
  after_from p (e ∷ es) h = let parts = split _ _ h in (less_from (path_cmp p e.0) parts.0, after_from p es parts.1)

  pub rises_from : (es : List (List Seg × X)) → T (is_sorted path_cmp es) → Rises es
  rises_from [] h = tt
  rises_from (e ∷ es) h = let parts = split _ _ h in (after_from e.0 es parts.0, rises_from es parts.1)

  -- entries in order are those of their map
  pub entries_of_rising : (es : List (List Seg × X)) → Rises es → map.entries (map.from_entries {R = path_cmp} es) ≡ es
  entries_of_rising es r =
      let sorted = test_rises es r in
      ap map.entries (map.same_map paths_total exact_paths (map.from_entries {R = path_cmp} es) (map.from_sorted {R = path_cmp} es)
      (λ q. map.get-from_entries paths_total es q ∙ sym (map.get-from_sorted path_cmp es q sorted)))
      ∙ map.entries-from_sorted path_cmp es sorted
