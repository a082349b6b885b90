use Rattle.acpi_text.proofs.Common.{word, prints_then}
use Rattle.acpi_text.proofs.heads.print_end.Goals as goal

pub returns : goal.returns
unfolding word
returns g c =
    let sum = prints_then _ _ _ _ _ _ c.print_address.ensures c.print_sum.ensures in
    prints_then _ _ _ _ _ _ sum c.put.ensures
