use Rattle.std.proofs.Common.{◌∷◌, cond, sym, ap, ◌∙◌}
use Rattle.std.specs.Prelude.{flat_map, option_to_list}
use Rattle.std.specs.Option.{option_copied, option_map}
use Rattle.aml_space.specs.Nodes.{known_by, paths_in, said_in, kind_shown}
use Rattle.aml_namespace.specs.Known.{kinds_by, outlook_in}
use Rattle.aml_namespace.specs.Runs.{counts_by}
use Rattle.aml_namespace.specs.Tallies.{joined, counts_in}
use Rattle.aml_namespace.proofs.Joined.{counts_declared}
use Rattle.aml_space.proofs.counting.counts_met.Goals as goal

pub returns-in-Some : goal.returns-in-Some
returns-in-Some c =
    let f = counts_by (outlook_in (known_by c.args.nodes.now)) in
    let ns = c.args.nodes.now in
    let d = said_in (paths_in ns) c.in-Some.said.now in
    let standing = kind_shown ns c.args.standing in
    c.with_standing.ensures
    ∙ (λ i. cond d.sure (c.counts_of_all.ensures i) (joined (c.counts_of_all.ensures i) (c.counts_standing-standing.ensures i)))
    ∙ sym (counts_declared f (d.kind ∷ d.others) (option_to_list standing) d.sure)
    ∙ ap (λ o. counts_in (flat_map f (kinds_by o standing)))
    (ap (λ o. option_map (said_in (paths_in ns)) (option_copied o)) (sym c.in-Some.is) ∙ c.declared_at.ensures)
