use Rattle.std.proofs.Common.{◌≡◌, ◌<◌, ◌++◌, Some, length, take, sym, ap, ◌∙◌, arith}
use Rattle.std.specs.Option.{option_map}
use Rattle.aml_children.proofs.Walks.{node_range}
use Rattle.aml_names.specs.declared.segments.Seg.{Seg}
use Rattle.std.specs.Prelude.{List}
use Rattle.aml_namespace.specs.Kinds.{target_in}
use Rattle.aml_space.specs.Candidates.{path_in}
use Rattle.aml_space.specs.Nodes.{paths_in}
use Rattle.aml_space.proofs.Named.{path_led}
use Rattle.aml_space.proofs.Targets.{path_read}
use Rattle.aml_space.proofs.scopes.Scope.numbered.Goals as goal
use Rattle.aml_space.proofs.scopes.Scope.numbered.Goals.{After-node_above-node}

within : (c : After-node_above-node) → c.node_above-node.result < length c.args.self.now.nodes.now
within c = node_range c.requires.scope.index.shape _ c.node_above-node.result c.node_above-node.ensures

pub new-requires : goal.new-requires
new-requires c = omega (arith, within (goal.at.new-requires c).After-node_above-node, c.requires.scope.index.few)

pub returns-clause-path : goal.returns-clause-path
returns-clause-path c = λ segs.
    let s = c.args.self.now in
    let ns = s.nodes.now in
    let at = c.node_above-node.result in
    let path : target_in (paths_in ns) c.new.result ≡ take c.in_ok-front.field-0 (path_in s) =
    ap (target_in (paths_in ns)) c.new.ensures ∙ path_read ns at (within (goal.at.returns-clause-path c).After-node_above-node)
    ∙ path_led ns c.requires.scope.index (take c.in_ok-front.field-0 (path_in s)) at c.node_above-node.ensures in
    ap (λ (p : List Seg). Some (p ++ segs)) path ∙ ap (option_map (λ n. take n (path_in s) ++ segs)) (sym c.in_ok-front.was)

pub returns-clause-within : goal.returns-clause-within
returns-clause-within c = omega (arith, within (goal.at.returns-clause-within c).After-node_above-node, c.new.ensures)
