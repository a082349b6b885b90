use Rattle.aml_text.proofs.Common.{sym, ◌∙◌}
use Rattle.aml_text.proofs.RowLines.{printed_none, printed_more, printed_rest, printed_all}
use Rattle.aml_text.proofs.rows.print_lines.Goals as goal

pub rows-init : goal.rows-init
rows-init g c = printed_none g.W.Write.contents _ _

pub rows-preserved : goal.rows-preserved
rows-preserved g c =
    printed_more g.W.Write.contents _ _ _ _ _ _ _ c.rows.invariant (sym c.next.ensures.row ∙ c.in-Some.is) c.next.ensures.rest c.print_row.ensures.text

pub returns-then-is_deep : goal.returns-then-is_deep
returns-then-is_deep g c =
    printed_rest g.W.Write.contents _ _ _ _ _ _ _ c.rows.invariant (sym c.next.ensures.row ∙ c.in-Some.is) c.next.ensures.rest c.print_deep.ensures

pub returns : goal.returns
returns g c = printed_all g.W.Write.contents _ _ _ _ c.rows.invariant (sym c.next.ensures.row ∙ c.in_default.is)
