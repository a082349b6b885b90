use Rattle.std.proofs.Common.{◌≡◌, ◌∷◌, false, map, sym, ap, ◌∙◌}
use Rattle.std.specs.Prelude.{flat_map}
use Rattle.std.specs.List.{list_any}
use Rattle.aml_space.specs.Nodes.{known_by, paths_in}
use Rattle.aml_namespace.specs.Kinds.{retarget, target_in, kind_in}
use Rattle.aml_namespace.proofs.Aimed.{any_aimed, own_aimed}
use Rattle.aml_namespace.specs.Known.{outlook_in}
use Rattle.aml_namespace.specs.Runs.{is_alias, counts_by}
use Rattle.aml_namespace.specs.Tallies.{joined, counts_in}
use Rattle.aml_namespace.specs.declared.tallies.Tally.{Tally}
use Rattle.aml_children.proofs.Basics.{not_true}
use Rattle.aml_namespace.proofs.Joined.{counts_plain, counts_more}
use Rattle.aml_space.proofs.counting.counts_of_all.Goals as goal

pub returns-then-not-tally : goal.returns-then-not-tally
returns-then-not-tally c =
    let d = c.args.said.now in
    let show = target_in (paths_in c.args.nodes.now) in
    let ks = d.kind ∷ d.others in
    let plain : list_any is_alias (map (retarget show) ks) ≡ false = any_aimed show ks
    ∙ sym (ap (λ (t : Tally). t.aliased) c.tally-tally.ensures) ∙ not_true c.tally-tally.result.aliased c.if-not-tally.true in
    ap (λ (t : Tally). t.counts) c.tally-tally.ensures ∙ ap counts_in (sym (own_aimed show ks))
    ∙ ap counts_in (sym (counts_plain (outlook_in (known_by c.args.nodes.now)) (map (retarget show) ks) plain))

pub returns : goal.returns
returns c =
    let o = outlook_in (known_by c.args.nodes.now) in
    let d = c.args.said.now in
    let show = kind_in (paths_in c.args.nodes.now) in
    c.counts_of_kinds.ensures
    ∙ (λ i. joined ((c.counts_of_kind-first.ensures ∙ ap (λ k. counts_in (counts_by o (show k))) c.kind.ensures) i)
    (counts_in (flat_map (counts_by o) (map show (c.others.ensures i)))))
    ∙ sym (counts_more (counts_by o (show d.kind)) (flat_map (counts_by o) (map show d.others)))
