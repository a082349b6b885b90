use Rattle.acpi_text.proofs.Common.{map, flat_map, range_with_len, Prints, address_bytes, address_width, entry_line}
use Rattle.acpi_text.proofs.content.print_entries.Given as goal

abbrev pub invariant-loop-index : goal.invariant-loop-index
invariant-loop-index g l =
    Prints g.W.Write.contents l.initial.out l.out (flat_map (entry_line l.dumps) (map (address_bytes (address_width l.width) l.table) (range_with_len 0 l.index)))
