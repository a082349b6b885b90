use Rattle.std.proofs.Common.{◌≡◌, Bool, true, cond, ◌&&◌, Ok, sym, ap, subst, ◌∙◌}
use Rattle.std.proofs.lemmas.Result.{err_from_is_err_and}
use Rattle.aml_code.specs.Pieces.{list}
use Rattle.aml_load.specs.Hearing.{Around, hear, inside_by, is_own_terms, list_in, opening, top}
use Rattle.aml_load.specs.HearingViews.{around_view, heard_by, stack_view, Hears}
use Rattle.aml_load.specs.Tables.{Fails}
use Rattle.aml_load.specs.declared.hearing.Hearing.{Hearing}
use Rattle.aml_load.proofs.Steps.{goes_heard, heard_as}
use Rattle.aml_load.proofs.hearing.Hearing.hear_list.Goals as goal
use Rattle.aml_load.proofs.hearing.Hearing.hear_list.Goals.{then-is_own_terms+in_ok-open_terms, else-is_own_terms+in_ok-catch_list}

pub returns-in_err-open_terms-clause-stops : goal.returns-in_err-open_terms-clause-stops
returns-in_err-open_terms-clause-stops c =
    let old = c.args.self.now in
    let k = old.progress.space in
    let kind = c.args.kind in
    let gave = err_from_is_err_and c.from_residual.result c.from_residual.ensures.1 in
    let e = c.in_err-open_terms.field-0.0 in
    let own : is_own_terms (top (stack_view k old.ears.around.items)) kind ≡ true =
    ap (λ (b : Around). is_own_terms b kind) (sym (c.top.ensures.top k)) ∙ sym (c.is_own_terms.ensures k) ∙ c.if-is_own_terms.true in
    rw (gave.1, gave.2) (λ l h.
    let x = heard_by old l in
    subst (λ (b : Bool). Fails e (cond (b && true) (inside_by x.term x) (Ok (opening (list_in (top x.around) kind) x)))) (sym own)
    (c.in_err-open_terms.ensures.stops l h))

pub returns-clause-hears : goal.returns-clause-hears
returns-clause-hears c =
    let old = c.args.self.now in
    let k = old.progress.space in
    let kind = c.args.kind in
    let is : top (stack_view k old.ears.around.items) ≡ around_view k c.top.result = sym (c.top.ensures.top k) in
    let tests = ap (λ (b : Around). is_own_terms b kind) is ∙ sym (c.is_own_terms.ensures k) in
    elim c.if-is_own_terms.branch [
      | then-is_own_terms+in_ok-open_terms w ↦
          subst (λ (m : Hearing). Hears old m (hear true (list kind))) (sym w.self-is)
          (heard_as old w.open_terms.new.self (λ x. inside_by x.term x) (hear true (list kind))
          (λ l. let x = heard_by old l in
          ap (λ (b : Bool). cond (b && true) (inside_by x.term x) (Ok (opening (list_in (top x.around) kind) x))) (tests ∙ w.if-is_own_terms.true))
          w.in_ok-open_terms.ensures.hears)
      | else-is_own_terms+in_ok-catch_list w ↦
          subst (λ (m : Hearing). Hears old m (hear true (list kind))) (sym w.self-is)
          (heard_as old _ (λ x. Ok (opening (list_in (top x.around) kind) x)) (hear true (list kind))
          (λ l. let x = heard_by old l in
          ap (λ (b : Bool). cond (b && true) (inside_by x.term x) (Ok (opening (list_in (top x.around) kind) x))) (tests ∙ w.if-is_own_terms.false))
          (goes_heard old.progress old.ears w.catch_list.new.self (λ x. opening (list_in (top x.around) kind) x) (w.in_ok-catch_list.ensures k) c.requires))
    ]
