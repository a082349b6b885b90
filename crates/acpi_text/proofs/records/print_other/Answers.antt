use Rattle.acpi_text.proofs.Common.{◌≡◌, ◌-◌, length, take, drop, length-drop, arith, take_all, word, prints_then}
use Rattle.acpi_text.proofs.Common.{other_text}
use Rattle.acpi_text.proofs.records.print_other.Goals as goal

pub returns : goal.returns
unfolding word other_text
returns g c =
    let bytes = c.args.bytes.now in
    let rest : take (length bytes - 2) (drop 2 bytes) ≡ drop 2 bytes = take_all _ _ (omega (arith, length-drop 2 bytes)) in
    let kind = rw (c.from.ensures, c.u8_at.ensures) at c.put_decimal.ensures in
    let content = rw rest at c.print_content.ensures in
    prints_then _ _ _ _ _ _ (prints_then _ _ _ _ _ _ kind c.put_decimal-2.ensures) content
