use Rattle.std.proofs.Common.{ℕ, ◌≤◌, Some, take, length, get_or, sym, ap, ◌∙◌, arith}
use Rattle.aml_children.specs.Numbered.{walk}
use Rattle.aml_space.specs.Nodes.{kids_of}
use Rattle.aml_space.specs.Candidates.{path_in, IsOver}
use Rattle.aml_children.proofs.Walks.{node_range}
use Rattle.aml_space.proofs.Named.{depth_led}
use Rattle.aml_space.proofs.scopes.Scope.over.Goals as goal
use Rattle.aml_space.proofs.scopes.Scope.over.Goals.{After-step_from-node}

-- a front of the scope's path leads there
led : (c : After-step_from-node) → IsOver c.args.self.now.nodes.now (path_in c.args.self.now) c.args.level.depth c.step_from-node.result
led c =
    let s = c.args.self.now in
    let over = c.requires.scope.ways.steps.each c.args.level.node (path_in s) c.args.level.depth c.requires.level.within c.requires.level.led in (
      over.0,
      over.1,
      over.2 ∙ ap (λ (n : ℕ). Some n) (sym (c.step_from-node.ensures ∙ ap (λ ss. get_or ss c.args.level.node c.args.level.node) c.as_slice.ensures.value)),
    )

pub depth_at-requires : goal.depth_at-requires
depth_at-requires c =
    let over = led (goal.at.depth_at-requires c).After-step_from-node in
    node_range c.requires.scope.index.shape (take over.0 (path_in c.args.self.now)) c.step_from-node.result over.2

pub returns : goal.returns
returns c =
    let s = c.args.self.now in
    let over = led (goal.at.returns c).After-step_from-node in
    let within : over.0 ≤ length (path_in s) = omega (arith, over.1, c.requires.level.within) in
    let depth = c.depth_at.ensures ∙ depth_led s.nodes.now c.requires.scope.index (path_in s) over.0 c.step_from-node.result within over.2 in
    record { within = omega (arith, depth, within); led = ap (λ n. walk (kids_of s.nodes.now) 0 (take n (path_in s))) depth ∙ over.2 }
