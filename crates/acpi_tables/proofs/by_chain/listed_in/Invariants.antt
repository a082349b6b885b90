use Rattle.acpi_tables.proofs.Common.{◌≡◌, map, range_with_len, address_at, address_width}
use Rattle.acpi_tables.proofs.Once.{listed_in}
use Rattle.acpi_tables.proofs.by_chain.listed_in.Given as goal

abbrev pub invariant-loop-index : goal.invariant-loop-index
invariant-loop-index l = l.listed.items ≡ listed_in l.dumps (map (address_at (address_width l.width) l.table) (range_with_len 0 l.index))
