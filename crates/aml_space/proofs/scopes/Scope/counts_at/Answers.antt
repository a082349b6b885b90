use Rattle.std.proofs.Common.{take, ◌++◌, ◌∙◌}
use Rattle.std.specs.Prelude.{flat_map}
use Rattle.aml_namespace.specs.Known.{kinds_by, sure_by}
use Rattle.aml_namespace.specs.Runs.{counts_by}
use Rattle.aml_space.specs.Candidates.{path_in, outlook_at}
use Rattle.aml_namespace.specs.Tallies.{counts_in}
use Rattle.aml_space.proofs.Meaning.{declared_there}
use Rattle.aml_space.proofs.scopes.Scope.counts_at.Goals as goal
use Rattle.aml_space.specs.Nodes.{paths_in}

pub returns-clause-counts : goal.returns-clause-counts
returns-clause-counts c =
    let s = c.args.self.now in
    c.counts_met-counts.ensures ∙ (λ i. counts_in (flat_map (counts_by (outlook_at s)) (kinds_by (declared_there s.nodes.now c.requires.scope.index.shape
    (take c.args.level.depth (path_in s) ++ c.args.segment.now) c.node_at-node.result c.node_at-node.ensures.node i) (c.standing.ensures (paths_in s.nodes.now) i))))

pub returns-clause-sure : goal.returns-clause-sure
returns-clause-sure c =
    let s = c.args.self.now in
    c.sure_met.ensures ∙ (λ i. sure_by (declared_there s.nodes.now c.requires.scope.index.shape
    (take c.args.level.depth (path_in s) ++ c.args.segment.now) c.node_at-node.result c.node_at-node.ensures.node i) (c.standing-2.ensures (paths_in s.nodes.now) i))
