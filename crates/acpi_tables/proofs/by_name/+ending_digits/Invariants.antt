use Rattle.acpi_tables.proofs.by_name.+ending_digits.Given as goal

abbrev pub decreases-ending_digits : goal.decreases-ending_digits
decreases-ending_digits l = l.count
