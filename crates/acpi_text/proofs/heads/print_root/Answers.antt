use Rattle.acpi_text.proofs.Common.{word, prints_then, root_text}
use Rattle.acpi_text.proofs.heads.print_root.Goals as goal

pub returns : goal.returns
unfolding word root_text
returns g c =
    let revision = prints_then _ _ _ _ _ _ c.put_quoted.ensures c.put_decimal.ensures in
    let rsdt = prints_then _ _ _ _ _ _ revision c.put_hex8.ensures in
    prints_then _ _ _ _ _ _ rsdt c.print_wide.ensures
