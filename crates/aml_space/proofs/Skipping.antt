-- The levels that a search skips: those to which a step leads no further than a floor have numbers above it
-- (`above_over`), and where no node between two levels has a child by the segment, they may be skipped (`skipped`).
use Rattle.std.proofs.Common.{◌≡◌, ℕ, ◌<◌, ◌≤◌, false, List, ◌++◌, length, take, Option, get_or}
use Rattle.std.proofs.Common.{Some, None, refl, sym, ap, ◌∙◌, arith}
use Rattle.std.proofs.lemmas.Bool.{false≢true}
use Rattle.aml_names.specs.declared.segments.Seg.{Seg}
use Rattle.aml_space.specs.declared.scopes.Scope.{Scope}
use Rattle.aml_space.specs.declared.scopes.Level.{Level}
use Rattle.aml_children.specs.Numbered.{walk}
use Rattle.aml_space.specs.Nodes.{kids_of}
use Rattle.aml_space.specs.Edges.{has_edge}
use Rattle.aml_space.specs.Candidates.{path_in, names_of, IsLevel, IsScope, IsNextOf, AreAbove}
use Rattle.aml_children.proofs.Basics.{alone}
use Rattle.aml_children.proofs.Walks.{front_led, node_range}
use Rattle.aml_space.proofs.Asked.{unknown_at}
use Rattle.aml_space.proofs.Levels.{rises}

module _ (s : Scope) (is : IsScope s) where
  -- by a step that doesn't lead below the floor
  pub above_over : (l over : Level) (floor : ℕ) → IsLevel s l → IsLevel s over → floor ≤ over.node → AreAbove s floor over.depth l.depth
  above_over l over floor level high least e j more less there =
      let up = rises s.nodes.now is.index (path_in s) over.depth e over.node j more (omega (arith, less, level.within)) high.led there in
      omega (arith, least, up)

  -- where all is kept, and no node between has a child by the segment
  pub skipped : (segment : List Seg) (none_seg : Seg) (l : Level) (up : ℕ) → length s.nodes.now ≤ length s.ways.now.steps.items
      → length segment ≡ 1 → IsLevel s l → up ≤ l.depth
      → ((e j : ℕ) → up < e → e ≤ l.depth → walk (kids_of s.nodes.now) 0 (take e (path_in s)) ≡ Some j → j ≤ l.node
      → has_edge s.ways.now.edges (get_or segment 0 none_seg) j ≡ false)
      → IsNextOf (names_of s) (path_in s) segment l.depth up
  skipped segment none_seg l up all one level within none = record {
    within = within;
    unknown = λ e more less.
        let front = front_led is.index.shape (path_in s) e l.depth l.node less level.led in
        unknown_at s.nodes.now is.index.shape (take e (path_in s) ++ segment) _ refl
        (by e front.0 front.1 (none e front.0 more less front.1 front.2) (walk (kids_of s.nodes.now) 0 (take e (path_in s) ++ segment)) refl);
  }
    where
      by : (e j : ℕ) → walk (kids_of s.nodes.now) 0 (take e (path_in s)) ≡ Some j → has_edge s.ways.now.edges (get_or segment 0 none_seg) j ≡ false
          → (o : Option ℕ) → walk (kids_of s.nodes.now) 0 (take e (path_in s) ++ segment) ≡ o → o ≡ None
      by e j led gone None here = refl
      by e j led gone (Some x) here =
          let inside = node_range is.index.shape (take e (path_in s) ++ segment) x here in
          absurd (false≢true (sym gone ∙ is.ways.edged (take e (path_in s)) (get_or segment 0 none_seg) j x led
          (ap (λ t. walk (kids_of s.nodes.now) 0 (take e (path_in s) ++ t)) (alone segment none_seg one) ∙ here) (omega (arith, inside, all))))
