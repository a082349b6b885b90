use Rattle.acpi_folder.proofs.Digits.{IsRead}
use Rattle.acpi_folder.proofs.map.hex_number.Given as goal

abbrev pub invariant-loop-digit : goal.invariant-loop-digit
invariant-loop-digit l = IsRead l.digits l.digit-index l.number
