use Rattle.acpi_folder.proofs.Common.{◌∙◌, ap, map, string_bytes, entry_of, lines_of, shown_by}
use Rattle.acpi_folder.proofs.Turns.{addresses_shown}
use Rattle.acpi_folder.proofs.map.parse_map.Goals as goal

pub returns-clause-addresses : goal.returns-clause-addresses
returns-clause-addresses c =
    c.in_ok-addresses.ensures
    ∙ addresses_shown string_bytes c.args.names.now c.deref.result.now (map entry_of (lines_of c.args.text.now))
    (ap (map shown_by) c.deref.ensures.value ∙ c.in_ok-lines.ensures.lines)
