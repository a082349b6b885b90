use Rattle.std.proofs.Common.{◌≡◌, ◌∙◌, OnOk, ap, subst, sym}
use Rattle.aml_code.specs.View.{fields_view, tail_view}
use Rattle.aml_code.proofs.Views.{view-tail-Fields}
use Rattle.aml_load.specs.Hearing.{Head, with_tail, with_units}
use Rattle.aml_load.specs.HearingViews.{head_view}
use Rattle.aml_load.proofs.ears.Head.note_tail.Goals as goal

pub returns-in-Fields-clause-noted : goal.returns-in-Fields-clause-noted
returns-in-Fields-clause-noted c k =
    let old = head_view k c.args.self.now in
    subst (λ (h : Head). OnOk c.add_units.result (head_view k c.add_units.new.self ≡ h))
    (ap (λ us. with_units (fields_view us) old) c.as_slice.ensures.value
    ∙ ap (λ t. with_tail t old) (sym (ap tail_view c.in-Fields.is ∙ view-tail-Fields c.in-Fields.fields)))
    (c.add_units.ensures.units k)
