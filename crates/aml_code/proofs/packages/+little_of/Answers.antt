use Rattle.std.proofs.Common.{arith}
use Rattle.aml_names.proofs.StepLaws.{byte_takes}
use Rattle.aml_code.proofs.LengthLaws.{little_below, eight_bytes}
use Rattle.aml_code.proofs.packages.+little_of.Goals as goal

pub returns-clause-below : goal.returns-clause-below
returns-clause-below t c =
    little_below c.args.width _ _ (omega arith)
    (byte_takes _ _ _ _ (λ i. omega (arith, c.type_inv.bytes i)) c.in_ok-low.ensures.exact).1 c.in_ok-high.ensures.below

pub overflow_mul-result : goal.overflow_mul-result
overflow_mul-result t c = omega (arith, returns-clause-below t c, eight_bytes c.args.width)

pub overflow_add-result : goal.overflow_add-result
overflow_add-result t c = omega (arith, returns-clause-below t c, eight_bytes c.args.width)
