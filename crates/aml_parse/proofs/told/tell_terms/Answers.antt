use Rattle.aml_parse.proofs.Common.{refl}
use Rattle.aml_parse.proofs.told.tell_terms.Goals as goal
use Rattle.aml_parse.specs.Reading.{all_at}

pub returns-clause-told : goal.returns-clause-told
unfolding all_at
returns-clause-told g c =
    let told = c.in_ok-tell_lines.ensures.told in
    let read = rw c.no_locals-locals.ensures.paths at told.1.0 in
    (told.0, (rw read refl, told.1.1.1))
