use Rattle.std.proofs.Common.{true, Ok, Result, sym, ap, subst, ◌∙◌}
use Rattle.std.proofs.lemmas.Result.{err_from_is_err_and}
use Rattle.aml_load.specs.Hearing.{Heard, closed, closed_by, done_by, is_head, top}
use Rattle.aml_load.specs.HearingViews.{heard_by, Hears}
use Rattle.aml_load.specs.Tables.{Fails}
use Rattle.aml_load.specs.declared.faults.LoadFault.{LoadFault}
use Rattle.aml_load.specs.declared.hearing.Hearing.{Hearing}
use Rattle.aml_load.proofs.Steps.{closed_else, closed_in, goes_heard, goes_on, heard_as, fails_on}
use Rattle.aml_load.proofs.hearing.Hearing.close.Goals as goal
use Rattle.aml_load.proofs.hearing.Hearing.close.Goals.{then-is_head+in_ok-finish_flat, else-is_head}

pub returns-in_err-finish_flat-clause-stops : goal.returns-in_err-finish_flat-clause-stops
returns-in_err-finish_flat-clause-stops c =
    let old = c.args.self.now in
    let k = old.progress.space in
    let gave = err_from_is_err_and c.from_residual.result c.from_residual.ensures.1 in
    let e = c.in_err-finish_flat.field-0.0 in
    let test = ap is_head (sym (c.top.ensures.top k)) ∙ sym (c.is_head.ensures k) ∙ c.if-is_head.true in
    rw (gave.1, gave.2) (λ l h.
    let x = heard_by old l in
    subst (λ (r : Result Heard LoadFault). Fails e r) (sym (closed_in (top x.around) c.args.span x test))
    (fails_on e (done_by x.term c.args.span x) (λ y. Ok (closed y)) (c.in_err-finish_flat.ensures.stops l h)))

pub returns-clause-hears : goal.returns-clause-hears
returns-clause-hears c =
    let old = c.args.self.now in
    let k = old.progress.space in
    let last = c.if-is_head.self in
    let span = c.args.span in
    let test = ap is_head (sym (c.top.ensures.top k)) ∙ sym (c.is_head.ensures k) in
    elim c.if-is_head.branch [
      | then-is_head+in_ok-finish_flat w ↦
          let one = subst (λ (m : Hearing). Hears old m (λ x. done_by x.term span x)) (sym w.self-is) w.in_ok-finish_flat.ensures.hears in
          let all = goes_on old last.progress last.ears c.close.new.self (λ x. done_by x.term span x) closed one (c.in_ok-close.ensures last.progress.space) in
          heard_as old _ _ (λ x. closed_by true (top x.around) span x)
          (λ l. let x = heard_by old l in closed_in (top x.around) span x (test ∙ w.if-is_head.true)) all
      | else-is_head w ↦
          let all = goes_heard last.progress last.ears c.close.new.self closed (c.in_ok-close.ensures last.progress.space) in
          heard_as old _ (λ x. Ok (closed x)) (λ x. closed_by true (top x.around) span x)
          (λ l. let x = heard_by old l in closed_else (top x.around) span x (test ∙ w.if-is_head.false)) (rw w.self-is (rw w.self-is at all c.requires))
    ]
