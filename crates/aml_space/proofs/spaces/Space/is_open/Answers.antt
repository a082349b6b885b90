use Rattle.std.proofs.Common.{◌≡◌, false, refl, sym, ap, subst, ◌∙◌, IfSome, ℕ, None, Option, Some, []}
use Rattle.aml_namespace.specs.Known.{kinds_by, outlook_in}
use Rattle.aml_namespace.specs.Runs.{Outlook, is_alias, open_among, open_in}
use Rattle.aml_space.proofs.Index.{part_met}
use Rattle.aml_namespace.proofs.Said.{no_alias}
use Rattle.aml_namespace.proofs.Stands.{outlook_listed}
use Rattle.aml_namespace.specs.declared.kinds.Kind.{Kind as KindOf}
use Rattle.aml_space.specs.Below.{path_below}
use Rattle.aml_namespace.specs.Predefined.{predefined}
use Rattle.aml_space.proofs.Reaching.{seen_below}
use Rattle.aml_space.proofs.spaces.Space.is_open.Goals as goal
use Rattle.aml_namespace.specs.Kinds.{Kind, kind_in, target_in}
use Rattle.std.specs.Option.{option_map}
use Rattle.aml_space.specs.Nodes.{paths_in, said_by}
use Rattle.aml_namespace.proofs.Aimed.{same_alias}

none_standing : (o : Option (KindOf ℕ)) → IfSome (option_map (kind_in []) o) (λ (k : Kind). is_alias k ≡ false)
    → IfSome o (λ (k : KindOf ℕ). is_alias k ≡ false)
none_standing None plain = tt
none_standing (Some k) plain = sym (same_alias (target_in []) k) ∙ plain

pub open_met-requires-clause-standing : goal.open_met-requires-clause-standing
open_met-requires-clause-standing c =
    none_standing c.standing_below.result (subst (λ o. IfSome o (λ (k : Kind). is_alias k ≡ false)) (sym (c.standing_below.ensures [])) (no_alias (path_below (paths_in c.as_slice-nodes.result.now) c.args.path.now)))

pub returns-clause-known : goal.returns-clause-known
returns-clause-known c =
    let along = seen_below _ _ c.args.self.now c.args.path.now c.as_slice-nodes.ensures.value c.self.view_is in
    let said = part_met said_by _ _ _ _ _ _ refl c.node_below-node.ensures.node c.as_slice-nodes.ensures.value along
    c.self.invariant.index.shape in
    c.open_met.ensures ∙ (λ i. open_among (kinds_by (said i) ((c.standing_below.ensures (paths_in c.as_slice-nodes.result.now) ∙ ap predefined along) i)))
    ∙ ap (λ k. open_in (outlook_in k) (path_below c.args.self.now.paths c.args.path.now)) c.self.view_is

pub returns-clause-listed : goal.returns-clause-listed
returns-clause-listed c = λ es stands.
    outlook_listed c.args.self.now es (λ (o : Outlook). open_in o (path_below c.args.self.now.paths c.args.path.now)) _ stands (returns-clause-known c)
