use Rattle.std.proofs.Common.{◌≡◌, sym, ap, ◌∙◌}
use Rattle.aml_load.specs.Hearing.{Around, list_in, opening, top}
use Rattle.aml_load.specs.HearingViews.{around_view, heard_in, stack_view}
use Rattle.aml_load.proofs.Steps.{goes_as, on_ok_by}
use Rattle.aml_load.proofs.ears.Ears.catch_list.Goals as goal

pub returns : goal.returns
returns c k =
    let old = c.args.self.now in
    let kind = c.args.kind in
    let a = around_view k c.list_in-around.result in
    let is : top (stack_view k old.around.items) ≡ around_view k c.top.result = sym (c.top.ensures.top k) in
    let there = ap (λ (b : Around). list_in b kind) is ∙ sym (c.list_in-around.ensures.around k) in
    on_ok_by c.go_in.result
    (goes_as k old c.go_in.new.self (opening a) (λ x. opening (list_in (top x.around) kind) x) (λ l. ap (λ (b : Around). opening b (heard_in k l old)) there))
    (c.go_in.ensures k (c.list_in-around.ensures.numbered k))
