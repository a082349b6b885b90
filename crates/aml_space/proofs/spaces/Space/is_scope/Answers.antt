use Rattle.std.proofs.Common.{refl, ap, ◌∙◌}
use Rattle.std.specs.Prelude.{◌&&◌}
use Rattle.std.specs.List.{list_all}
use Rattle.aml_namespace.specs.Known.{kinds_by, sure_by, outlook_in}
use Rattle.aml_namespace.specs.Runs.{Outlook, opens_scope, scope_in}
use Rattle.aml_space.proofs.Index.{part_met}
use Rattle.aml_namespace.proofs.Stands.{outlook_listed}
use Rattle.aml_space.specs.Below.{path_below}
use Rattle.aml_namespace.specs.Predefined.{predefined}
use Rattle.aml_space.proofs.Reaching.{seen_below}
use Rattle.aml_space.proofs.spaces.Space.is_scope.Goals as goal
use Rattle.aml_space.specs.Nodes.{paths_in, said_by}

pub returns-clause-known : goal.returns-clause-known
returns-clause-known c =
    let along = seen_below _ _ c.args.self.now c.args.path.now c.as_slice-nodes.ensures.value c.self.view_is in
    let said = part_met said_by _ _ _ _ _ _ refl c.node_below-node.ensures.node c.as_slice-nodes.ensures.value along
    c.self.invariant.index.shape in
    c.scope_met.ensures
    ∙ (λ i. sure_by (said i) ((c.standing_below.ensures (paths_in c.as_slice-nodes.result.now) ∙ ap predefined along) i) && list_all opens_scope (kinds_by (said i) ((c.standing_below.ensures (paths_in c.as_slice-nodes.result.now) ∙ ap predefined along) i)))
    ∙ ap (λ k. scope_in (outlook_in k) (path_below c.args.self.now.paths c.args.path.now)) c.self.view_is

pub returns-clause-listed : goal.returns-clause-listed
returns-clause-listed c = λ es stands.
    outlook_listed c.args.self.now es (λ (o : Outlook). scope_in o (path_below c.args.self.now.paths c.args.path.now)) _ stands (returns-clause-known c)
