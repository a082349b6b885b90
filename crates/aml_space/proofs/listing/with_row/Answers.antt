use Rattle.std.specs.Prelude.{IfSome}
use Rattle.std.proofs.Common.{◌≡◌, ◌++◌, ◌<◌, ◌∷◌, [], None, length, sym, subst, ap, ◌∙◌, arith}
use Rattle.std.specs.Option.{option_copied, option_map, option_to_list}
use Rattle.aml_space.specs.Nodes.{kids_of, links_of, rows_of, path_of, paths_in, said_in, rows_ahead, next_node}
use Rattle.aml_children.specs.Numbered.{ahead}
use Rattle.aml_namespace.proofs.Stands.{none_from_test}
use Rattle.aml_space.proofs.Gathered.{rows_on, nodes_on}
use Rattle.aml_space.proofs.listing.with_row.Goals as goal

pub nodes-preserved : goal.nodes-preserved
nodes-preserved c =
    let ns = c.args.nodes.now in
    let at = c.in-Some.at in
    let within : at < length ns = subst (λ o. IfSome o (λ i. i < length ns)) c.in-Some.is c.nodes.invariant.within in
    let none : rows_of ns at ≡ None = ap (option_map (λ d. (path_of ns at, d))) (sym c.declared_here.ensures ∙ ap (λ o. option_map (said_in (paths_in ns)) (option_copied o))
    (none_from_test c.declared_here.result (sym c.is_some.ensures ∙ c.if-is_some.false))) in
    record {
      same = ap (rows_ahead ns) c.node_after-next.ensures.next ∙ ap (λ o. option_to_list o ++ rows_ahead ns (next_node ns at)) (sym none)
          ∙ sym (rows_on ns c.requires.index at within) ∙ ap (rows_ahead ns) (sym c.in-Some.is) ∙ c.nodes.invariant.same;
      within = c.node_after-next.ensures.within;
    }

pub nodes-smaller : goal.nodes-smaller
nodes-smaller c =
    let ns = c.args.nodes.now in
    let at = c.in-Some.at in
    let within : at < length ns = subst (λ o. IfSome o (λ i. i < length ns)) c.in-Some.is c.nodes.invariant.within in
    let all = ahead (kids_of ns) (links_of ns) (λ k. k ∷ []) (length ns) in
    let one = ap length (nodes_on ns c.requires.index at within) in
    omega (arith, one, ap (λ o. length (all o)) c.in-Some.is, ap (λ o. length (all o)) c.node_after-next.ensures.next)
