use Rattle.aml_parse.proofs.Common.{refl}
use Rattle.aml_parse.proofs.module.tell_module_terms.Goals as goal
use Rattle.aml_parse.specs.Reading.{all_at}

pub returns-clause-told : goal.returns-clause-told
unfolding all_at
returns-clause-told g c =
    let told = c.in_ok-tell_lines.ensures.told in
    (told.0, (rw told.1.0 refl, told.1.1.1))
