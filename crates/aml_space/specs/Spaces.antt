-- A stepping stone of the proofs: what a space keeps.
use Rattle.std.specs.Prelude.{◌≡◌, ℕ, List, length}
use Rattle.std.specs.FinMap as map
use Rattle.aml_space.specs.declared.nodes.Node.{Node}
use Rattle.aml_space.specs.declared.ways.Ways.{Ways}
use Rattle.aml_space.specs.Candidates.{AreWays}
use Rattle.aml_space.specs.Nodes.{known_by, IsIndex}

-- nodes with the number of the paths that are declared, and the ways up
pub record IsSpace (ns : List Node) (many : ℕ) (upward : Ways) : Type 0 where
  pub index : IsIndex ns
  pub rows : many ≡ length (map.entries (known_by ns).declarations)
  pub ways : AreWays ns upward
