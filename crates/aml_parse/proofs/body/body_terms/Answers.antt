use Rattle.aml_parse.proofs.Common.{Ok, Trees, ap, sym, ◌∙◌}
use Rattle.aml_parse.proofs.BuiltLaws.{nodes_built}
use Rattle.aml_parse.proofs.body.body_terms.Goals as goal

pub returns : goal.returns
returns g c =
    let told = c.in_ok-tell_terms.ensures.told in
    let nodes =
    nodes_built 0 c.new-builder.result c.tell_terms.new.sink c.new-builder.ensures told.0 _ told.1.1 c.into_nodes.ensures in
    told.1.0 ∙ ap (λ (ts : Trees). Ok ts) (sym nodes)
