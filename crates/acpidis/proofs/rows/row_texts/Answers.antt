use Rattle.acpidis.proofs.Common.{ap, sym, ◌∙◌}
use Rattle.std.specs.Prelude.{is_some, slice_get}
use Rattle.aml_text.proofs.PieceLaws.{pieces_all}
use Rattle.acpidis.proofs.rows.row_texts.Goals as goal

pub returns : goal.returns
returns g c =
    pieces_all _ c.rows.left c.rows.texts.items c.rows.invariant
    (ap (λ rows. is_some (slice_get rows 0)) (sym c.in_default.ensures.none) ∙ ap is_some (sym c.next.ensures.row)
    ∙ sym c.is_some.ensures ∙ c.if-is_some.false)
