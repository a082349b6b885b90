use Rattle.acpidis.proofs.Common.{List, sym, subst, table_terms}
use Rattle.std.proofs.Common.{Option}
use Rattle.aml_text.proofs.ToldLaws.{terms_told}
use Rattle.aml_text.specs.Told.{AreTold}
use Rattle.asl_text.specs.declared.tables.TableText.{TableText}
use Rattle.acpidis.proofs.told.or_terms.Goals as goal

pub returns-clause-set : goal.returns-clause-set
returns-clause-set c =
    let ts = c.in_ok-_order.set.tables.items in (
      table_terms ts,
      (
        c.in_ok-_order.ensures.set,
        subst (λ (xs : List (Option TableText)). AreTold ts xs (table_terms ts)) (sym c.new.ensures.items) (terms_told ts),
      ),
    )
