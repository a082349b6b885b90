use Rattle.aml_text.proofs.Common.{ℕ, List, ◌++◌, flat_map, length, subst, decimal, Prints, word, line, row_line, namespace_text, prints_then}
use Rattle.std.specs.FinMap as map
use Rattle.aml_text.proofs.rows.print_rows.Goals as goal

abbrev count_line : ℕ → List ℕ
count_line n = line 0 (word "Namespace " ++ decimal n)

pub returns : goal.returns
unfolding namespace_text
returns g c =
    let f = g.W.Write.contents in
    let all = map.entries c.args.space.now.declarations in
    prints_then f c.args.out.now c.print_count.new.out c.print_lines.new.out (count_line (length all)) (flat_map row_line all)
    (subst (λ n. Prints f c.args.out.now c.print_count.new.out (count_line n)) c.row_count-count.ensures c.print_count.ensures)
    (subst (λ rows. Prints f c.print_count.new.out c.print_lines.new.out (flat_map row_line rows)) c.in_order.ensures c.print_lines.ensures)
