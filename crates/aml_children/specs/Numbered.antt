-- A stepping stone of the proofs: a tree of numbered nodes, by the children and the content of each number.
use Rattle.std.specs.Prelude.{◌≡◌, ℕ, zero, suc, ◌<◌, List, [], ◌∷◌, ◌++◌, map, Option, Some, None}
use Rattle.std.specs.List.{flat_map}
use Rattle.std.specs.Option.{option_and_then, option_or}
use Rattle.aml_names.specs.declared.segments.Seg.{Seg}
use Rattle.aml_children.specs.declared.children.Child.{Child}
use Rattle.aml_children.specs.Children.{child_in, IsBefore, behind, first_node}

-- where a path leads from a node
abbrev pub walk : (ℕ → List Child) → ℕ → List Seg → Option ℕ
walk kids i [] = Some i
walk kids i (s ∷ q) = option_and_then (λ j. walk kids j q) (child_in (kids i) s)

abbrev pub own : {X : Type 0} → Option X → List (List Seg × X)
own None = []
own (Some x) = ([], x) ∷ []

abbrev pub under : {X : Type 0} → Seg → List Seg × X → List Seg × X
under s e = (s ∷ e.0, e.1)

-- what stands at and below a node, to a depth
abbrev pub gather : {X : Type 0} → (ℕ → List Child) → (ℕ → Option X) → ℕ → ℕ → List (List Seg × X)
gather kids part zero i = []
gather kids part (suc n) i =
    own (part i) ++ flat_map (λ (c : Child). map (under c.seg) (gather kids part n c.node)) (kids i)

-- children of a node have greater numbers, and rise by segment
abbrev pub IsFamily : ℕ → ℕ → List Child → Type 0
IsFamily i len [] = Unit {0}
IsFamily i len (c ∷ cs) = (i < c.node) × ((c.node < len) × (IsBefore c.seg cs × IsFamily i len cs))

-- each node has a path, and a child's is its parent's with its segment
pub record IsLabelled (kids : ℕ → List Child) (label : ℕ → List Seg) : Type 0 where
  pub root : label 0 ≡ []
  pub below : (i j : ℕ) (s : Seg) → child_in (kids i) s ≡ Some j → label j ≡ label i ++ s ∷ []

pub record IsTree (len : ℕ) (kids : ℕ → List Child) : Type 0 where
  pub rooted : 0 < len
  pub families : (i : ℕ) → IsFamily i len (kids i)
  pub label : ℕ → List Seg
  pub labelled : IsLabelled kids label

-- what each node has, at and below a node, to a depth
abbrev pub visited : {X : Type 0} → (ℕ → List Child) → (ℕ → List X) → ℕ → ℕ → List X
visited kids part zero i = []
visited kids part (suc n) i = part i ++ flat_map (λ (c : Child). visited kids part n c.node) (kids i)

-- the places of a node and of its parents below their parents, up to a depth
abbrev pub links_up : (ℕ → ℕ × Seg) → ℕ → ℕ → List (ℕ × Seg)
links_up link zero i = []
links_up link (suc n) zero = []
links_up link (suc n) (suc i) = link (suc i) ∷ links_up link n (link (suc i)).0

-- the segments of some places, the nearest first: the path from the root on
abbrev pub segs_down : List (ℕ × Seg) → List Seg
segs_down [] = []
segs_down (l ∷ ls) = segs_down ls ++ l.1 ∷ []

-- the children that come behind a place
abbrev pub rest_at : (ℕ → List Child) → ℕ × Seg → List Child
rest_at kids l = behind l.1 (kids l.0)

-- what the nodes behind a node and all below it have, in the order of paths
abbrev pub later : {X : Type 0} → (ℕ → List Child) → (ℕ → ℕ × Seg) → (ℕ → List X) → ℕ → ℕ → List X
later kids link part len i =
    flat_map (λ l. flat_map (λ (c : Child). visited kids part len c.node) (rest_at kids l)) (links_up link i i)

-- what the nodes from one on have
abbrev pub ahead : {X : Type 0} → (ℕ → List Child) → (ℕ → ℕ × Seg) → (ℕ → List X) → ℕ → Option ℕ → List X
ahead kids link part len None = []
ahead kids link part len (Some i) = visited kids part len i ++ later kids link part len i

-- the first node behind some places, the nearest first
abbrev pub first_behind : (ℕ → List Child) → List (ℕ × Seg) → Option ℕ
first_behind kids [] = None
first_behind kids (l ∷ ls) = option_or (first_node (rest_at kids l)) (first_behind kids ls)

-- the first node behind a node and all below it
abbrev pub up : (ℕ → List Child) → (ℕ → ℕ × Seg) → ℕ → Option ℕ
up kids link i = first_behind kids (links_up link i i)
