use Rattle.std.proofs.Common.{◌≡◌, ◌+◌, arith, ◌-◌, Some, length, take, drop, sym, ap, ◌∙◌}
use Rattle.aml_children.specs.Numbered.{walk}
use Rattle.aml_children.proofs.Walks.{node_range}
use Rattle.aml_space.specs.Nodes.{kids_of, path_by}
use Rattle.aml_space.proofs.Named.{path_short}
use Rattle.aml_space.proofs.Paths.{Leads}
use Rattle.aml_space.proofs.Reaching.{first_left, left_grown}
use Rattle.aml_space.proofs.growing.extend.Goals as goal
use Rattle.aml_space.proofs.growing.extend.Goals.{In_ok-node-in-len1-up}

pub grow-requires-clause-deep : goal.grow-requires-clause-deep
grow-requires-clause-deep c =
    omega (arith, c.requires.index.deep c.args.reach.node c.requires.reach.within, path_short c.args.nodes.now.items c.args.reach.node)

grown : (c : In_ok-node-in-len1-up) → Leads c.args.nodes.now.items c.grow.new.nodes.items (path_by c.args.nodes.now.items c.args.reach)
    (length c.args.nodes.now.items + length (take (length c.args.reach.left.now - 1) (drop 1 c.args.reach.left.now)))
grown c = left_grown c.args.nodes.now.items c.grow.new.nodes.items c.args.reach _ _ c.requires.index c.requires.reach
    (first_left c.args.reach.left.now c.in-len1-up.len_at_least) c.in_ok-node-in-len1-up.ensures.few c.in_ok-node-in-len1-up.ensures.ok

led_there : (c : In_ok-node-in-len1-up) → walk (kids_of c.grow.new.nodes.items) 0 (path_by c.args.nodes.now.items c.args.reach) ≡ Some c.in_ok-node-in-len1-up.node
led_there c = (grown c).led ∙ ap Some (sym c.in_ok-node-in-len1-up.ensures.node)

pub returns-in_ok-node-in-len1-up-clause-index : goal.returns-in_ok-node-in-len1-up-clause-index
returns-in_ok-node-in-len1-up-clause-index c = (grown (goal.at.returns-in_ok-node-in-len1-up-clause-index c).In_ok-node-in-len1-up).index

pub returns-in_ok-node-in-len1-up-clause-known : goal.returns-in_ok-node-in-len1-up-clause-known
returns-in_ok-node-in-len1-up-clause-known c = (grown (goal.at.returns-in_ok-node-in-len1-up-clause-known c).In_ok-node-in-len1-up).known

pub returns-in_ok-node-in-len1-up-clause-kept : goal.returns-in_ok-node-in-len1-up-clause-kept
returns-in_ok-node-in-len1-up-clause-kept c = (grown (goal.at.returns-in_ok-node-in-len1-up-clause-kept c).In_ok-node-in-len1-up).kept

pub returns-in_ok-node-in-len1-up-clause-node : goal.returns-in_ok-node-in-len1-up-clause-node
returns-in_ok-node-in-len1-up-clause-node c = led_there (goal.at.returns-in_ok-node-in-len1-up-clause-node c).In_ok-node-in-len1-up

pub returns-in_ok-node-in-len1-up-clause-within : goal.returns-in_ok-node-in-len1-up-clause-within
returns-in_ok-node-in-len1-up-clause-within c =
    let end = (goal.at.returns-in_ok-node-in-len1-up-clause-within c).In_ok-node-in-len1-up in
    node_range (grown end).index.shape (path_by c.args.nodes.now.items c.args.reach) end.in_ok-node-in-len1-up.node (led_there end)
