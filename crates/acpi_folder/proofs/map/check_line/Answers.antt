use Rattle.acpi_folder.proofs.Common.{rules, sym}
use Rattle.acpi_folder.proofs.map.check_line.Goals as goal
use Rattle.acpi_folder.proofs.Entries.{list_any-shown}

pub returns-then-is_repeated-clause-refused : goal.returns-then-is_repeated-clause-refused
returns-then-is_repeated-clause-refused c =
    let form = c.in-Some.ensures.0 in
    (form, search rules, list_any-shown c.in-Some.line c.args.bytes.now c.args.earlier.now _ c.in-Some.ensures.1 (sym c.if-is_repeated.ensures))

pub returns-clause-fresh : goal.returns-clause-fresh
returns-clause-fresh c = list_any-shown c.in-Some.line c.args.bytes.now c.args.earlier.now _ c.in-Some.ensures.1 (sym c.if-is_repeated.ensures)
