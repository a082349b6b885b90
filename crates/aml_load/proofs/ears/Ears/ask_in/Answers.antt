use Rattle.std.proofs.Common.{Bool, Option, Some, sym, ap, ◌∙◌}
use Rattle.aml_load.specs.Hearing.{asked_by}
use Rattle.aml_load.specs.HearingViews.{heard_in}
use Rattle.aml_load.proofs.Steps.{goes_as, on_ok_by}
use Rattle.aml_load.proofs.ears.Ears.ask_in.Goals as goal

pub returns-in-Some-true : goal.returns-in-Some-true
returns-in-Some-true c k =
    let n = c.args.name.now in
    let count = c.args.count in
    on_ok_by c.ask.result
    (goes_as k c.args.self.now c.ask.new.self _ _ (λ l.
    ap (λ (o : Option Bool). asked_by (heard_in k l c.args.self.now).term o n count (heard_in k l c.args.self.now)) (sym (c.asks.ensures k) ∙ c.in-Some-true.is ∙ ap (λ (b : Bool). Some b) c.in-Some-true.field-0-test)))
    (c.ask.ensures k)
