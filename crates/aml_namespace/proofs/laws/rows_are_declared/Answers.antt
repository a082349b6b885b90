use Rattle.aml_namespace.specs.Known.{known}
use Rattle.aml_namespace.proofs.Ordered.{entries_rows}
use Rattle.aml_namespace.proofs.Stands.{known_stands}
use Rattle.aml_namespace.proofs.laws.rows_are_declared.Goals as goal

-- src/laws.rt:10:5
pub returns : goal.returns
returns c = λ es. entries_rows (known es) es (known_stands es)
