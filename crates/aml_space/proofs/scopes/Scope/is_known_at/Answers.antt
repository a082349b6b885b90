use Rattle.std.proofs.Common.{take, ◌++◌, ◌∙◌}
use Rattle.aml_space.proofs.Meaning.{known_of_met}
use Rattle.aml_space.specs.Candidates.{path_in}
use Rattle.aml_space.proofs.scopes.Scope.is_known_at.Goals as goal
use Rattle.aml_space.specs.Nodes.{paths_in}

pub returns : goal.returns
returns c =
    let s = c.args.self.now in
    c.known_met.ensures ∙ known_of_met s.nodes.now c.requires.scope.index.shape (take c.args.level.depth (path_in s) ++ c.args.segment.now) _
    c.node_at-node.ensures.node _ (c.standing.ensures (paths_in s.nodes.now))
