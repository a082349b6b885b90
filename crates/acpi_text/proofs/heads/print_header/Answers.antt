use Rattle.acpi_text.proofs.Common.{word, prints_then, header_text}
use Rattle.acpi_text.proofs.heads.print_header.Goals as goal

pub returns : goal.returns
unfolding word header_text
returns g c =
    let length = prints_then _ _ _ _ _ _ c.put_quoted.ensures c.put_decimal.ensures in
    let revision = prints_then _ _ _ _ _ _ length c.put_decimal-2.ensures in
    let oem = prints_then _ _ _ _ _ _ revision c.put_quoted-2.ensures in
    let table = prints_then _ _ _ _ _ _ oem c.put_quoted-3.ensures in
    let oem_revision = prints_then _ _ _ _ _ _ table c.put_hex8.ensures in
    let creator = prints_then _ _ _ _ _ _ oem_revision c.put_quoted-4.ensures in
    prints_then _ _ _ _ _ _ creator c.put_hex8-2.ensures
