use Rattle.std.proofs.Common.{◌≡◌, Some, take, sym, ap, ◌∙◌}
use Rattle.std.specs.Option.{option_and_then}
use Rattle.aml_children.specs.Numbered.{walk}
use Rattle.aml_space.specs.Nodes.{kids_of}
use Rattle.aml_children.proofs.Walks.{node_range, walk_append, walk_none}
use Rattle.aml_space.proofs.scopes.Scope.node_below.Goals as goal
use Rattle.aml_space.specs.Candidates.{path_in}
use Rattle.aml_space.proofs.scopes.Scope.node_below.Goals.{In_ok-front}

led : (c : In_ok-front)
    → walk (kids_of c.args.self.now.nodes.now) 0 (take c.args.depth (path_in c.args.self.now)) ≡ Some c.in_ok-front.front
led c = sym c.front_node.ensures ∙ c.in_ok-front.was

pub returns-in_err-front-clause-node : goal.returns-in_err-front-clause-node
returns-in_err-front-clause-node c = c.from_residual.ensures ∙ sym (walk_none (kids_of c.args.self.now.nodes.now) 0
    (take c.args.depth (path_in c.args.self.now)) c.args.segs.now (sym c.front_node.ensures ∙ c.in_err-front.was))

pub node_from-requires-clause-within : goal.node_from-requires-clause-within
node_from-requires-clause-within c = node_range c.requires.scope.index.shape (take c.args.depth (path_in c.args.self.now)) c.in_ok-front.front
    (led (goal.at.node_from-requires-clause-within c).In_ok-front)

pub returns-clause-node : goal.returns-clause-node
returns-clause-node c =
    let s = c.args.self.now in
    let kids = kids_of s.nodes.now in
    c.node_from.ensures.node ∙ sym (walk_append kids 0 (take c.args.depth (path_in s)) c.args.segs.now
    ∙ ap (option_and_then (λ j. walk kids j c.args.segs.now)) (led (goal.at.returns-clause-node c).In_ok-front))
