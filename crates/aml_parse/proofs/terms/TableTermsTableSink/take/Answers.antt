use Rattle.aml_parse.proofs.Common.{List, subst}
use Rattle.aml_code.specs.Pieces.{Told}
use Rattle.aml_parse.specs.Built.{Grew}
use Rattle.aml_parse.proofs.BuiltLaws.{nodes_built}
use Rattle.aml_parse.proofs.terms.TableTermsTableSink.take.Goals as goal

pub returns-clause-kept : goal.returns-clause-kept
returns-clause-kept g c =
    let told = c.in_ok-made.ensures.told in (
      told.0,
      (
        told.1.0,
        λ level ts is. nodes_built level c.new-builder.result c.tell_all.new.sink c.new-builder.ensures ts _
            (subst (λ (ps : List Told). Grew c.new-builder.result c.tell_all.new.sink ps) is told.1.1) c.into_nodes.ensures,
      ),
    )
