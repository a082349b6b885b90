use Rattle.std.proofs.Common.{take, ◌++◌, is_some, sym, ap, ◌∙◌}
use Rattle.aml_children.proofs.Basics.{some_map}
use Rattle.aml_space.proofs.Meaning.{kind_of_met}
use Rattle.aml_children.proofs.Walks.{node_within}
use Rattle.aml_space.specs.Candidates.{path_in}
use Rattle.aml_space.proofs.scopes.Scope.has_kind.Goals as goal
use Rattle.aml_namespace.specs.Kinds.{kind_in}
use Rattle.aml_space.specs.Nodes.{paths_in}

pub kind_met-requires : goal.kind_met-requires
kind_met-requires c = node_within c.requires.scope.index.shape _ c.args.here.node c.requires.node

pub returns : goal.returns
returns c =
    let s = c.args.self.now in
    c.is_some.ensures ∙ sym (some_map (kind_in (paths_in s.nodes.now)) c.kind_met.result) ∙ ap is_some (c.kind_met.ensures
    ∙ kind_of_met s.nodes.now c.requires.scope.index.shape (take c.args.here.depth (path_in s) ++ c.args.segment.now) c.args.here.node c.requires.node _
    (c.standing.ensures (paths_in s.nodes.now)))
