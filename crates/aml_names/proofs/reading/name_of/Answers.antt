use Rattle.aml_names.proofs.NameLaws.{segment_names}
use Rattle.aml_names.proofs.reading.name_of.Goals as goal

pub returns-in-Some : goal.returns-in-Some
returns-in-Some c = record { exact = rw c.plain.ensures (segment_names _ _ _ _ (c.in-Some.ensures c.args.end)) }
