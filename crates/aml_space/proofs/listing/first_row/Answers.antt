use Rattle.std.proofs.Common.{◌≡◌, ◌++◌, Some, sym, ap, ◌∙◌}
use Rattle.std.specs.Option.{option_copied, option_map, option_to_list}
use Rattle.aml_space.specs.Nodes.{rows_of, path_of, paths_in, said_in, rows_ahead, next_node}
use Rattle.aml_space.proofs.Gathered.{rows_on}
use Rattle.aml_space.proofs.listing.first_row.Goals as goal

pub returns-clause-some : goal.returns-clause-some
returns-clause-some c =
    let ns = c.args.nodes.now in
    let at = c.in_ok-at.at in
    let here : rows_of ns at ≡ Some (path_of ns at, said_in (paths_in ns) c.in_ok-said.said.now) =
    ap (option_map (λ d. (path_of ns at, d))) (sym c.declared_here.ensures ∙ ap (λ o. option_map (said_in (paths_in ns)) (option_copied o)) c.in_ok-said.was) in
    sym c.in_ok-at.ensures.same ∙ rows_on ns c.requires.index at c.in_ok-at.ensures.within
    ∙ ap (λ o. option_to_list o ++ rows_ahead ns (next_node ns at)) here
