use Rattle.std.proofs.Common.{None, cond, map, sym, ap, ◌∙◌, Some}
use Rattle.aml_space.specs.Nodes.{known_by, path_of, paths_in}
use Rattle.aml_namespace.specs.Known.{kinds_by, outlook_in}
use Rattle.aml_namespace.specs.Namespace.{target_count}
use Rattle.aml_namespace.specs.declared.tallies.Counts.TheVariants.{One}
use Rattle.aml_namespace.specs.Tallies.{counts_in, own_count, is_nothing}
use Rattle.aml_namespace.proofs.Joined.{targets}
use Rattle.aml_space.proofs.Meaning.{declared_there, out_of_met}
use Rattle.aml_space.proofs.counting.counts_of_target.Goals as goal
use Rattle.aml_namespace.specs.Runs.{target_counts}
use Rattle.aml_namespace.proofs.Aimed.{own_aimed}
use Rattle.std.specs.Option.{option_copied}
use Rattle.aml_namespace.specs.Kinds.{target_in}
use Rattle.aml_namespace.specs.Predefined.{predefined}

pub returns : goal.returns
returns c =
    let ns = c.args.nodes.now in
    let at = c.numbered-node.result in
    let p = path_of ns at in
    let o = outlook_in (known_by ns) in
    let met = sym (c.requires.there at c.numbered-node.ensures.within) in
    let kinds = kinds_by (option_copied c.declared_at-said.result) c.standing_behind.result in
    let seen = c.standing_behind.ensures (paths_in ns)
    ∙ ap (λ d. kinds_by d (predefined p)) (c.declared_at-said.ensures ∙ declared_there ns c.requires.shape p (Some at) met) in
    c.or_outside.ensures
    ∙ ap (λ out. cond (is_nothing c.targets_met-counts.result) (One (target_count None out)) c.targets_met-counts.result)
    (c.out_at.ensures ∙ out_of_met ns c.requires.shape p (Some at) met)
    ∙ sym (targets (o.kinds p) (o.first.outs p) c.targets_met-counts.result (c.targets_met-counts.ensures
    ∙ ap counts_in (sym (own_aimed (target_in (paths_in ns)) kinds) ∙ ap (map own_count) seen)))
    ∙ ap (λ q. counts_in (target_counts (o.kinds q) (o.first.outs q))) c.numbered-node.ensures.path
