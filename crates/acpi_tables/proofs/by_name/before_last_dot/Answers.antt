use Rattle.acpi_tables.proofs.Common.{sym}
use Rattle.acpi_tables.proofs.Digits.{before_last-found, before_last-none}
use Rattle.acpi_tables.proofs.by_name.before_last_dot.Goals as goal

pub returns-in-Some : goal.returns-in-Some
returns-in-Some c = before_last-found c.args.name.now c.in-Some.after (sym c.in-Some.ensures.after)

pub returns-in-None : goal.returns-in-None
returns-in-None c = before_last-none c.args.name.now (sym c.in-None.ensures.after)
