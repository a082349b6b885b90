use Rattle.std.proofs.Common.{inr, subst}
use Rattle.aml_set.specs.Code.{AreCodes}
use Rattle.aml_set.proofs.TableLaws.{are_codes}
use Rattle.aml_load.proofs.loading.load_lists.Goals as goal

pub returns-in_err-set-clause-bytes : goal.returns-in_err-set-clause-bytes
returns-in_err-set-clause-bytes c = inr (subst AreCodes c.in_ok-tables.ensures (are_codes c.in_ok-tables.tables.items))

pub returns-clause-bytes : goal.returns-clause-bytes
returns-clause-bytes c = inr (subst AreCodes c.in_ok-tables.ensures (are_codes c.in_ok-tables.tables.items))
