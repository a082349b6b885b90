-- The path of a scope is that of its last node, and the segments behind it.
use Rattle.std.proofs.Common.{◌≡◌, ℕ, ◌+◌, ◌-◌, ◌<◌, ◌≤◌, List, [], ◌∷◌, ◌++◌, Some, None, refl, length, take, get_or, sym, ap, ◌∙◌, arith, length-append}
use Rattle.std.proofs.lemmas.List.{length-take-le, get_or-append_right}
use Rattle.aml_names.specs.declared.segments.Seg.{Seg}
use Rattle.aml_children.specs.Numbered.{walk}
use Rattle.aml_space.specs.declared.scopes.Scope.{Scope}
use Rattle.aml_space.specs.Nodes.{kids_of, links_of, path_of}
use Rattle.aml_space.specs.Candidates.{path_in, IsScope}
use Rattle.aml_namespace.specs.Predefined.{predefined}
use Rattle.aml_space.proofs.Named.{path_led}
use Rattle.aml_space.proofs.Levels.{before}

module _ (s : Scope) (is : IsScope s) where
  pub front_is : path_of s.nodes.now s.last.node ≡ take s.last.depth (path_in s)
  front_is = path_led s.nodes.now is.index (take s.last.depth (path_in s)) s.last.node is.last.led

  pub front_long : length (path_of s.nodes.now s.last.node) ≡ s.last.depth
  front_long = ap length front_is ∙ length-take-le s.last.depth (path_in s) is.last.within

  pub long_is : length (path_in s) ≡ s.last.depth + length s.beyond.now
  long_is = length-append (path_of s.nodes.now s.last.node) s.beyond.now ∙ ap (λ n. n + length s.beyond.now) front_long

  -- a segment that isn't behind the last level is that of the node behind it
  pub segment_led : (d j : ℕ) → d < length (path_in s) → walk (kids_of s.nodes.now) 0 (take (d + 1) (path_in s)) ≡ Some j
      → (links_of s.nodes.now j).1 ≡ get_or (path_in s) d (record { 0 = [] })
  segment_led d j within led =
      let there = before s.nodes.now is.index (path_in s) d j within led in
      ap (λ (l : ℕ × Seg). l.1) (is.index.linked.below there.0 j _ there.2)

  -- and another one is behind it
  pub segment_beyond : (d : ℕ) → s.last.depth ≤ d
      → get_or s.beyond.now (d - s.last.depth) (record { 0 = [] }) ≡ get_or (path_in s) d (record { 0 = [] })
  segment_beyond d past = sym (get_or-append_right (path_of s.nodes.now s.last.node) s.beyond.now s.last.depth d (record { 0 = [] }) front_long past)

-- no path of two segments or more is predefined
pub predefined_long : (front own : List Seg) → 1 < length front → predefined (front ++ own) ≡ None
predefined_long [] own deep = absurd (omega (arith, deep))
predefined_long (s ∷ []) own deep = absurd (omega (arith, deep))
predefined_long (s ∷ t ∷ front) own deep = refl

-- the first segment of a path
pub first_of_path : (path : List Seg) → 0 < length path → take 1 path ≡ get_or path 0 (record { 0 = [] }) ∷ []
first_of_path [] deep = absurd (omega (arith, deep))
first_of_path (s ∷ rest) deep = refl
