use Rattle.std.proofs.Common.{sym, ap, subst, ◌∙◌}
use Rattle.std.proofs.lemmas.Result.{err_from_is_err_and}
use Rattle.aml_namespace.specs.Known.{StandsFor}
use Rattle.aml_set.specs.Methods.{methods_in}
use Rattle.aml_load.specs.Declaring.{uses_at}
use Rattle.aml_load.specs.Groups.{uses_of}
use Rattle.aml_load.specs.Tables.{Fails}
use Rattle.aml_load.proofs.loading.checked_set.Goals as goal

pub returns-clause-checked : goal.returns-clause-checked
returns-clause-checked c l h =
    let stands = subst (λ k. StandsFor k l.entries) (sym c.settle.ensures) h.space in
    let uses = (λ i. uses_of (c.settle.ensures i) (c.as_slice.ensures.value i)) ∙ h.uses in (
      stands,
      ap (λ k. methods_in k c.args.progress.methods.items) c.settle.ensures ∙ h.methods,
      ap (uses_at c.args.any_run c.args.unknown_zero l.entries) (sym uses) ∙ c.in_ok-check_uses.ensures l stands,
    )

pub returns-in_err-check_uses-clause-checked : goal.returns-in_err-check_uses-clause-checked
returns-in_err-check_uses-clause-checked c l h =
    let stands = subst (λ k. StandsFor k l.entries) (sym c.settle.ensures) h.space in
    let uses = (λ i. uses_of (c.settle.ensures i) (c.as_slice.ensures.value i)) ∙ h.uses in
    let gave = err_from_is_err_and c.from_residual-in_err-check_uses.result c.from_residual-in_err-check_uses.ensures.1 in
    rw (gave.1, gave.2) (subst (λ us. Fails c.in_err-check_uses.field-0.0 (uses_at c.args.any_run c.args.unknown_zero l.entries us)) uses
    (c.in_err-check_uses.ensures l stands))
