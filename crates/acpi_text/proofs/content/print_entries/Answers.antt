use Rattle.acpi_text.proofs.Common.{◌≡◌, [], flat_map, map, ap, sym, subst, ◌∙◌, zero-add, arith, range_with_len}
use Rattle.acpi_text.proofs.Common.{map-range_with_len_more, Prints, prints_then}
use Rattle.acpi_text.proofs.Common.{address_bytes, address_count, address_width, entry_line, entry_lines, flat_map_more}
use Rattle.acpi_text.proofs.content.print_entries.Goals as goal

pub loop-index-preserved : goal.loop-index-preserved
loop-index-preserved g c =
    let bytes = address_bytes (address_width c.args.width) c.args.table.now in
    let line = entry_line c.args.dumps.now in
    let index = c.loop-index.index in
    let more = flat_map_more line [] (map bytes (range_with_len 0 index)) (bytes index)
    ∙ ap (flat_map line) (sym (map-range_with_len_more bytes 0 index index (zero-add index))) in
    subst (Prints g.W.Write.contents c.args.out.now c.print_entry.new.out) more
    (prints_then _ _ _ _ _ _ c.loop-index.invariant (rw c.address_bytes.ensures.bytes at c.print_entry.ensures))

pub returns : goal.returns
unfolding entry_lines
returns g c =
    let all : c.loop-index.index ≡ address_count (address_width c.args.width) c.args.table.now = omega arith in
    subst (λ n. Prints g.W.Write.contents c.args.out.now c.loop-index.out
    (flat_map (entry_line c.args.dumps.now) (map (address_bytes (address_width c.args.width) c.args.table.now) (range_with_len 0 n)))) all c.loop-index.invariant
