use Rattle.acpi_folder.proofs.Common.{◌<◌, rules, sym, ap, subst, ◌∙◌, arith, digit_value, AllDigits}
use Rattle.acpi_folder.proofs.Digits.{room, one_more, not_digits}
use Rattle.acpi_folder.proofs.map.hex_number.Goals as goal

pub overflow_mul-number : goal.overflow_mul-number
overflow_mul-number c = omega (arith, room _ _ _ c.loop-digit-test.true c.loop-digit.invariant c.requires)

pub overflow_add-number : goal.overflow_add-number
overflow_add-number c =
    let value = c.in_ok-to_digit.ensures.value in
    omega (arith, room _ _ _ c.loop-digit-test.true c.loop-digit.invariant c.requires, c.from-in-loop-digit.ensures, value.0, value.1)

pub loop-digit-preserved : goal.loop-digit-preserved
loop-digit-preserved c =
    let value = c.in_ok-to_digit.ensures.value in
    one_more _ _ _ c.loop-digit-test.true c.loop-digit.invariant c.from-in-loop-digit.result (subst (λ d. digit_value d < 16) c.from.ensures value.0)
    (sym (c.from-in-loop-digit.ensures ∙ value.1 ∙ ap digit_value c.from.ensures))

pub returns-in_err-to_digit : goal.returns-in_err-to_digit
returns-in_err-to_digit c =
    let wrong : ¬ AllDigits 16 c.args.digits.now =
    not_digits _ _ c.loop-digit-test.true (λ small. c.in_err-to_digit.ensures.value (subst (λ d. digit_value d < 16) (sym c.from.ensures) small)) in
    search rules
