use Rattle.std.proofs.Common.{take, ◌++◌, ◌∙◌}
use Rattle.aml_namespace.specs.Known.{sure_by}
use Rattle.aml_space.proofs.Meaning.{declared_there}
use Rattle.aml_children.proofs.Walks.{node_within}
use Rattle.aml_space.specs.Candidates.{path_in}
use Rattle.aml_space.proofs.scopes.Scope.is_sure.Goals as goal
use Rattle.aml_space.specs.Nodes.{paths_in}

pub sure_met-requires : goal.sure_met-requires
sure_met-requires c = node_within c.requires.scope.index.shape _ c.args.here.node c.requires.node

pub returns : goal.returns
returns c =
    let s = c.args.self.now in
    c.sure_met.ensures ∙ (λ i. sure_by (declared_there s.nodes.now c.requires.scope.index.shape
    (take c.args.here.depth (path_in s) ++ c.args.segment.now) c.args.here.node c.requires.node i) (c.standing.ensures (paths_in s.nodes.now) i))
