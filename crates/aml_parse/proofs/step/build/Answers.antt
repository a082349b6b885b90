use Rattle.aml_parse.proofs.Common.{rules}
use Rattle.aml_parse.proofs.BuiltLaws.{node_built}
use Rattle.aml_parse.proofs.step.build.Goals as goal

pub into_node-requires : goal.into_node-requires
into_node-requires g c =
    let told = c.in_ok-behind.ensures.told in
    (told.0, node_built c.args.here.level c.new-builder.result c.tell_at.new.sink c.new-builder.ensures told.0 told.1.1.1)

pub returns-clause-read : goal.returns-clause-read
returns-clause-read g c =
    let told = c.in_ok-behind.ensures.told in
    let built_is = node_built c.args.here.level c.new-builder.result c.tell_at.new.sink c.new-builder.ensures told.0 told.1.1.1 in
    let node = c.into_node.ensures told.0 built_is in
    rw node (search rules)
