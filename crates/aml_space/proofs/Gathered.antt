-- The rows at and below a node are what is gathered there, with the node's path in front (`rows_after`), since the path
-- of a node is the one that leads to it. So the rows from the root on are those that are known (`rows_of_all`).
use Rattle.std.specs.Prelude.{slice_get}
use Rattle.std.proofs.Common.{◌≡◌, ℕ, zero, suc, ◌<◌, List, [], ◌∷◌, ◌++◌, map as map_list, Option, Some, None, length}
use Rattle.std.proofs.Common.{refl, sym, ap, ◌∙◌, append_assoc}
use Rattle.std.specs.List.{flat_map}
use Rattle.std.specs.Option.{option_and_then, option_map, option_to_list}
use Rattle.std.proofs.lemmas.List.{append-nil, map-append}
use Rattle.std.specs.FinMap as map
use Rattle.aml_names.specs.declared.segments.Seg.{Seg}
use Rattle.aml_namespace.specs.Known.{Declared}
use Rattle.aml_children.specs.declared.children.Child.{Child}
use Rattle.aml_children.specs.Children.{child_in}
use Rattle.aml_space.specs.declared.nodes.Node.{Node}
use Rattle.aml_children.specs.Numbered.{walk, own, under, gather, visited, ahead}
use Rattle.aml_space.specs.Nodes.{kids_of, declared_of, rows_of, path_of, known_by, rows_ahead, links_of, next_node}
use Rattle.aml_space.specs.Nodes.{IsIndex}
use Rattle.aml_children.proofs.Walks.{walk_push}
use Rattle.aml_children.proofs.Family.{at_found}
use Rattle.aml_children.proofs.Visiting.{one_on}
use Rattle.aml_space.proofs.Named.{path_led}
use Rattle.aml_children.proofs.Order.{rises_gather, entries_of_rising}

-- the rows at and below a node, to a depth
abbrev rows_below : List Node → ℕ → ℕ → List (List Seg × Declared)
rows_below ns n i = visited (kids_of ns) (λ k. option_to_list (rows_of ns k)) n i

module _ (ns : List Node) (is : IsIndex ns) where
  abbrev after : List Seg → List Seg × Declared → List Seg × Declared
  after q e = (q ++ e.0, e.1)

  -- what is gathered at and below a node, and below some children
  abbrev said_at : ℕ → ℕ → List (List Seg × Declared)
  said_at n i = gather (kids_of ns) (declared_of ns) n i

  abbrev said_below : ℕ → List Child → List (List Seg × Declared)
  said_below n cs = flat_map (λ (c : Child). map_list (under c.seg) (said_at n c.node)) cs

  after_under : (q : List Seg) (s : Seg) (es : List (List Seg × Declared))
      → map_list (after q) (map_list (under s) es) ≡ map_list (after (q ++ s ∷ [])) es
  after_under q s [] = refl
  after_under q s (e ∷ es) = (λ t. (sym (append_assoc q (s ∷ []) e.0) t, e.1) ∷ after_under q s es t)

  own_after : (i : ℕ) (q : List Seg) → walk (kids_of ns) 0 q ≡ Some i
      → option_to_list (rows_of ns i) ≡ map_list (after q) (own (declared_of ns i))
  own_after i q led = by (declared_of ns i)
    where
      by : (o : Option Declared) → option_to_list (option_map (λ d. (path_of ns i, d)) o) ≡ map_list (after q) (own o)
      by None = refl
      by (Some d) = (λ t. ((path_led ns is q i led ∙ sym (append-nil q)) t, d) ∷ [])

  below_after : (n i : ℕ) (q : List Seg) → walk (kids_of ns) 0 q ≡ Some i
      → ((j : ℕ) (p : List Seg) → walk (kids_of ns) 0 p ≡ Some j → rows_below ns n j ≡ map_list (after p) (said_at n j)) →
      (cs : List Child) → ((k : ℕ) (c : Child) → slice_get cs k ≡ Some c → child_in (kids_of ns i) c.seg ≡ Some c.node) →
      flat_map (λ (c : Child). rows_below ns n c.node) cs ≡ map_list (after q) (said_below n cs)
  below_after n i q led each [] found = refl
  below_after n i q led each (c ∷ cs) found =
      let led_c : walk (kids_of ns) 0 (q ++ c.seg ∷ []) ≡ Some c.node = walk_push (kids_of ns) 0 q c.seg
      ∙ ap (option_and_then (λ j. child_in (kids_of ns j) c.seg)) led ∙ found 0 c refl in
      (λ t. (each c.node (q ++ c.seg ∷ []) led_c ∙ sym (after_under q c.seg (said_at n c.node))) t
      ++ below_after n i q led each cs (λ k d at. found (suc k) d at) t)
      ∙ sym (map-append (after q) (map_list (under c.seg) (said_at n c.node)) _)

  rows_after : (n i : ℕ) (q : List Seg) → walk (kids_of ns) 0 q ≡ Some i
      → rows_below ns n i ≡ map_list (after q) (said_at n i)
  rows_after zero i q led = refl
  rows_after (suc n) i q led =
      (λ t. own_after i q led t ++ below_after n i q led (rows_after n) (kids_of ns i)
      (λ k c at. at_found i (length ns) (kids_of ns i) k c (is.shape.families i) at) t)
      ∙ sym (map-append (after q) (own (declared_of ns i)) _)

  at_root : (es : List (List Seg × Declared)) → map_list (after []) es ≡ es
  at_root [] = refl
  at_root (e ∷ es) = (λ t. e ∷ at_root es t)

  pub rows_of_all : rows_ahead ns (Some 0) ≡ map.entries (known_by ns).declarations
  rows_of_all = append-nil (rows_below ns (length ns) 0) ∙ rows_after (length ns) 0 [] refl ∙ at_root _
      ∙ sym (entries_of_rising _ (rises_gather is.shape (declared_of ns) (length ns) 0))

  -- a row, if the node has one, and those from the next node on; and the nodes themselves
  pub rows_on : (i : ℕ) → i < length ns
      → rows_ahead ns (Some i) ≡ option_to_list (rows_of ns i) ++ rows_ahead ns (next_node ns i)
  rows_on i within = one_on is.shape (links_of ns) is.linked.lower (λ k. option_to_list (rows_of ns k)) is.linked.below i within

  pub nodes_on : (i : ℕ) → i < length ns → ahead (kids_of ns) (links_of ns) (λ k. k ∷ []) (length ns) (Some i) ≡ i
      ∷ ahead (kids_of ns) (links_of ns) (λ k. k ∷ []) (length ns) (next_node ns i)
  nodes_on i within = one_on is.shape (links_of ns) is.linked.lower (λ k. k ∷ []) is.linked.below i within
