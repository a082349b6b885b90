-- A stepping stone of the proofs: the paths that a name of one segment may mean in a scope, by their nodes.
use Rattle.std.specs.Prelude.{◌≡◌, ℕ, ◌<◌, ◌≤◌, false, true, List, [], ◌∷◌, ◌++◌, length, take, get_or, Option, Some}
use Rattle.std.specs.Prelude.{None}
use Rattle.std.specs.FinSet as set
use Rattle.aml_names.specs.declared.segments.Seg.{Seg}
use Rattle.aml_names.specs.Paths.{PathSet}
use Rattle.aml_space.specs.declared.nodes.Node.{Node}
use Rattle.aml_space.specs.declared.scopes.Scope.{Scope}
use Rattle.aml_space.specs.declared.scopes.Level.{Level}
use Rattle.aml_space.specs.declared.scopes.Candidate.{Candidate}
use Rattle.aml_space.specs.declared.walking.Aside.{Aside}
use Rattle.aml_space.specs.declared.edges.Edges.{Edges}
use Rattle.aml_space.specs.declared.ways.Ways.{Ways}
use Rattle.aml_space.specs.Edges.{has_edge}
use Rattle.aml_children.specs.Numbered.{walk}
use Rattle.aml_space.specs.Nodes.{kids_of, known_by, path_of, IsIndex}
use Rattle.aml_namespace.specs.Known.{namespace_in, outlook_in}
use Rattle.aml_namespace.specs.Runs.{Outlook}
use Rattle.aml_namespace.specs.Namespace.{Namespace}

-- the namespace in which a scope stands
abbrev pub names_of : Scope → Namespace
names_of s = namespace_in (known_by s.nodes.now)

-- the path of a scope: that of its last node in the index, and the segments behind it
abbrev pub path_in : Scope → List Seg
path_in s = path_of s.nodes.now s.last.node ++ s.beyond.now

-- and what may stand at each path there
abbrev pub outlook_at : Scope → Outlook
outlook_at s = outlook_in (known_by s.nodes.now)

-- a shorter front of a path, or itself, leads to a node
abbrev pub IsOver : List Node → List Seg → ℕ → ℕ → Type 0
IsOver ns path d i = (over : ℕ) × (over ≤ d) × (walk (kids_of ns) 0 (take over path) ≡ Some i)

-- of some first nodes one further up each
pub record AreSteps (ns : List Node) (steps : List ℕ) : Type 0 where
  pub long : length steps ≤ length ns
  pub low : (i : ℕ) → i < length ns → get_or steps i i ≤ i
  pub each : (i : ℕ) (path : List Seg) (d : ℕ) → d ≤ length path → walk (kids_of ns) 0 (take d path) ≡ Some i →
      IsOver ns path d (get_or steps i i)

-- of each child with a number below this one it is kept whose it is, by which segment
abbrev pub AreEdged : List Node → ℕ → Edges → Type 0
AreEdged ns n edges = (q : List Seg) (s : Seg) (i j : ℕ) → walk (kids_of ns) 0 q ≡ Some i →
    walk (kids_of ns) 0 (q ++ s ∷ []) ≡ Some j → j < n → has_edge edges s i ≡ true

-- what is kept of some first nodes
pub record AreWays (ns : List Node) (w : Ways) : Type 0 where
  pub steps : AreSteps ns w.steps.items
  pub edged : AreEdged ns (length w.steps.items) w.edges

-- a level of a scope: a front of its path, and the node to which this leads
pub record IsLevel (s : Scope) (l : Level) : Type 0 where
  pub within : l.depth ≤ length (path_in s)
  pub led : walk (kids_of s.nodes.now) 0 (take l.depth (path_in s)) ≡ Some l.node

-- behind the last level of a scope the index has no nodes
pub record IsScope (s : Scope) : Type 0 where
  pub index : IsIndex s.nodes.now
  pub ways : AreWays s.nodes.now s.ways.now
  pub last : IsLevel s s.last
  pub long : s.len ≡ length (path_in s)
  pub past : (d : ℕ) → s.last.depth < d → d ≤ length (path_in s) → walk (kids_of s.nodes.now) 0 (take d (path_in s)) ≡ None

-- of the levels between two of a scope, the upper one left out, each has a node above a floor
abbrev pub AreAbove : Scope → ℕ → ℕ → ℕ → Type 0
AreAbove s floor upper lower = (e j : ℕ) → upper < e → e ≤ lower →
    walk (kids_of s.nodes.now) 0 (take e (path_in s)) ≡ Some j → floor < j

-- a count that a namespace has of paths beside their declarations
abbrev pub aside_in : Aside → Namespace → List Seg → Option ℕ
aside_in Aside.External n = n.outs
aside_in Aside.Given n = n.givens

-- nothing is known of a path
pub record IsUnknown (n : Namespace) (p : List Seg) : Type 0 where
  pub declared : n.declared p ≡ None
  pub out : n.outs p ≡ None
  pub given : n.givens p ≡ None

-- from one depth of a path up another is the next at which a segment may stand: of it nothing is known between them
pub record IsNextOf (n : Namespace) (path segment : List Seg) (from next : ℕ) : Type 0 where
  pub within : next ≤ from
  pub unknown : (d : ℕ) → next < d → d ≤ from → IsUnknown n (take d path ++ segment)

-- that level of a scope, from a depth up
pub record IsNextWith (s : Scope) (segment : List Seg) (from : ℕ) (l : Level) : Type 0 where
  pub level : IsLevel s l
  pub next : IsNextOf (names_of s) (path_in s) segment from l.depth

-- the path of a candidate
abbrev pub path_at : List Seg → List Seg → Candidate → List Seg
path_at scope segment c = take c.depth scope ++ segment

-- a candidate of a segment in a scope, with its node
pub record IsCandidate (ns : List Node) (locals : PathSet) (scope segment : List Seg) (c : Candidate) : Type 0 where
  pub within : c.depth ≤ length scope
  pub node : c.local ≡ false → c.node ≡ walk (kids_of ns) 0 (take c.depth scope ++ segment)
  pub local : c.local ≡ set.contains locals (take c.depth scope ++ segment)
