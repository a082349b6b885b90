use Rattle.std.specs.FinMap as map
use Rattle.aml_text.proofs.Common.{ℕ, List, ◌++◌, ◌∙◌, sym, flat_map, length, subst, decimal}
use Rattle.aml_text.proofs.Common.{Prints, word, line, row_line, namespace_text, prints_then}
use Rattle.aml_text.proofs.PieceLaws.{lines_of}
use Rattle.aml_text.proofs.rows.print_set_rows.Goals as goal

abbrev count_line : ℕ → List ℕ
count_line n = line 0 (word "Namespace " ++ decimal n)

pub returns : goal.returns
unfolding namespace_text
returns g c =
    let f = g.W.Write.contents in
    let tables = c.args.tables in
    let all = map.entries tables.set.now.space.declarations in
    prints_then f c.args.out.now c.print_count.new.out c.print_texts.new.out
    (count_line (length all)) (flat_map row_line all)
    (subst (λ n. Prints f c.args.out.now c.print_count.new.out (count_line n))
    c.row_count.ensures c.print_count.ensures)
    (subst (Prints f c.print_count.new.out c.print_texts.new.out)
    (sym (lines_of all tables.rows.now (sym c.is_empty.ensures ∙ c.if-is_empty.false)) ∙ tables.lines)
    c.print_texts.ensures)
