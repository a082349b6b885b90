use Rattle.std.proofs.Common.{take, [], ◌∙◌}
use Rattle.aml_space.proofs.Levels.{candidate_node}
use Rattle.aml_children.proofs.Walks.{kid_within, node_range}
use Rattle.aml_space.specs.Candidates.{path_in}
use Rattle.aml_space.proofs.scopes.Scope.node_at.Goals as goal

pub child-requires-clause-within : goal.child-requires-clause-within
child-requires-clause-within c =
    node_range c.requires.scope.index.shape (take c.args.level.depth (path_in c.args.self.now)) c.args.level.node c.requires.level.led

pub returns-clause-node : goal.returns-clause-node
returns-clause-node c =
    let s = c.args.self.now in
    c.child.ensures ∙ candidate_node s.nodes.now (path_in s) c.args.segment.now (record { 0 = [] }) c.args.level.depth c.args.level.node c.requires.one
    c.requires.level.led

pub returns-clause-inside : goal.returns-clause-inside
returns-clause-inside c = kid_within c.requires.scope.index.shape c.args.level.node _ c.child.result c.child.ensures
