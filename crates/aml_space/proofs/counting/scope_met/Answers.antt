use Rattle.std.proofs.Common.{◌≡◌, Some, is_some, sym, ap, ◌∙◌, Bool}
use Rattle.std.specs.Prelude.{◌&&◌, ◌||◌, option_to_list}
use Rattle.std.specs.List.{list_all}
use Rattle.std.specs.Option.{option_copied, option_map, option_and_then}
use Rattle.aml_namespace.specs.Kinds.{retarget, target_in}
use Rattle.aml_namespace.specs.Known.{kinds_by, sure_by}
use Rattle.aml_namespace.specs.Runs.{opens_scope}
use Rattle.aml_namespace.specs.declared.tallies.Tally.{Tally}
use Rattle.aml_namespace.proofs.Aimed.{all_aimed, kinds_aimed, sure_aimed}
use Rattle.aml_namespace.proofs.Said.{scope_said}
use Rattle.aml_space.specs.Nodes.{declared_of, paths_in, said_in}
use Rattle.aml_space.proofs.counting.scope_met.Goals as goal
use Rattle.aml_space.proofs.counting.scope_met.Goals.{After-tally}

-- what is told of kinds by number, of kinds by path
told : (c : After-tally) → (b : Bool)
    → b ≡ (c.tally.result.scopes && (c.in-Some.said.now.sure
    || (is_some c.args.standing && list_all opens_scope (option_to_list c.args.standing))))
    → b ≡ (sure_by (option_and_then (declared_of c.args.nodes.now) c.args.node) (option_map (retarget (target_in (paths_in c.args.nodes.now))) c.args.standing)
    && list_all opens_scope (kinds_by (option_and_then (declared_of c.args.nodes.now) c.args.node) (option_map (retarget (target_in (paths_in c.args.nodes.now))) c.args.standing)))
told c b is =
    let ns = c.args.nodes.now in
    let show = target_in (paths_in ns) in
    let d = c.in-Some.said.now in
    let standing = c.args.standing in
    let shown = option_map (retarget show) standing in
    is ∙ ap (λ (t : Tally). t.scopes && (d.sure || (is_some standing && list_all opens_scope (option_to_list standing)))) c.tally.ensures
    ∙ scope_said d standing
    ∙ (λ i. sym (sure_aimed show (Some d) standing) i && sym (all_aimed show (kinds_by (Some d) standing)) i)
    ∙ ap (λ ks. sure_by (Some (said_in (paths_in ns) d)) shown && list_all opens_scope ks) (sym (kinds_aimed show (Some d) standing))
    ∙ ap (λ o. sure_by o shown && list_all opens_scope (kinds_by o shown))
    (ap (λ o. option_map (said_in (paths_in ns)) (option_copied o)) (sym c.in-Some.is) ∙ c.declared_at.ensures)

pub returns-then-is_sure : goal.returns-then-is_sure
returns-then-is_sure c = told (goal.at.returns-then-is_sure c).After-tally c.is_sure.result
    (c.if-is_sure.true ∙ (λ i. sym c.if-tally.true i && ((sym c.if-is_sure.true ∙ c.is_sure.ensures) i || (is_some c.args.standing && list_all opens_scope (option_to_list c.args.standing)))))

pub returns-else-is_sure : goal.returns-else-is_sure
returns-else-is_sure c = told (goal.at.returns-else-is_sure c).After-tally c.stands_as_scope-else-is_sure.result
    (c.stands_as_scope-else-is_sure.ensures
    ∙ (λ i. sym c.if-tally.true i && ((sym c.if-is_sure.false ∙ c.is_sure.ensures) i || (is_some c.args.standing && list_all opens_scope (option_to_list c.args.standing)))))

pub returns-else-tally : goal.returns-else-tally
returns-else-tally c = told (goal.at.returns-else-tally c).After-tally c.tally.result.scopes
    (c.if-tally.false ∙ ap (λ b. b && (c.in-Some.said.now.sure || (is_some c.args.standing && list_all opens_scope (option_to_list c.args.standing)))) (sym c.if-tally.false))
