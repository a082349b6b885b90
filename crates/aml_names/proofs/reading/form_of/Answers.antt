use Rattle.std.proofs.Common.{rules}
use Rattle.aml_names.specs.NameReading.{form_at}
use Rattle.aml_names.proofs.reading.form_of.Goals as goal

pub returns-in-46 : goal.returns-in-46
unfolding form_at
returns-in-46 c = search rules
