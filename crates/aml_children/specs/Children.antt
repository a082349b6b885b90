-- The children of a node in the order of their segments.
use Rattle.std.specs.Prelude.{◌≡◌, ℕ, cond, List, [], ◌∷◌, Option, Some, None}
use Rattle.std.specs.Ordering.{eq_by_cmp, is_lt}
use Rattle.std.specs.declared.cmp.Ordering.TheVariants.{Less}
use Rattle.aml_names.specs.declared.segments.Seg.{Seg}
use Rattle.aml_names.specs.Paths.{seg_cmp}
use Rattle.aml_children.specs.declared.children.Child.{Child}

-- the node of a segment among some children
abbrev pub child_in : List Child → Seg → Option ℕ
child_in [] s = None
child_in (c ∷ cs) s = cond (eq_by_cmp seg_cmp s c.seg) (Some c.node) (child_in cs s)

-- a segment comes before those of some children
abbrev pub IsBefore : Seg → List Child → Type 0
IsBefore s [] = Unit {0}
IsBefore s (c ∷ cs) = (seg_cmp s c.seg ≡ Less) × IsBefore s cs

-- the segments rise
abbrev pub Rise : List Child → Type 0
Rise [] = Unit {0}
Rise (c ∷ cs) = IsBefore c.seg cs × Rise cs

-- a new child behind those that come before it
abbrev pub put : List Child → Child → List Child
put [] c = c ∷ []
put (d ∷ cs) c = cond (is_lt (seg_cmp d.seg c.seg)) (d ∷ put cs c) (c ∷ d ∷ cs)

-- the children from the first one on whose segment comes behind this one
abbrev pub behind : Seg → List Child → List Child
behind s [] = []
behind s (c ∷ cs) = cond (is_lt (seg_cmp s c.seg)) (c ∷ cs) (behind s cs)

-- the node of the first child
abbrev pub first_node : List Child → Option ℕ
first_node [] = None
first_node (c ∷ cs) = Some c.node
