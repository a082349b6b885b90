use Rattle.std.proofs.Common.{◌∷◌, cond, map, sym, ap, ◌∙◌}
use Rattle.std.specs.Prelude.{option_to_list}
use Rattle.std.specs.Option.{option_copied}
use Rattle.aml_namespace.specs.Known.{kinds_by}
use Rattle.aml_namespace.specs.Tallies.{joined, counts_in, own_count}
use Rattle.aml_namespace.proofs.Joined.{targets_declared}
use Rattle.aml_space.proofs.counting.targets_met.Goals as goal

pub returns-in-Some : goal.returns-in-Some
returns-in-Some c =
    let d = c.in-Some.said.now in
    let standing = c.args.standing in
    c.with_standing.ensures
    ∙ (λ i. cond d.sure (c.tally.ensures i).counts (joined (c.tally.ensures i).counts (c.own_counts-in-Some.ensures i)))
    ∙ sym (targets_declared (d.kind ∷ d.others) (option_to_list standing) d.sure)
    ∙ ap (λ o. counts_in (map own_count (kinds_by (option_copied o) standing))) (sym c.in-Some.is)
