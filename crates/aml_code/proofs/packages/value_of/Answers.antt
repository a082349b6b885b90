use Rattle.std.proofs.Common.{◌/◌, arith, rules, tests}
use Rattle.aml_code.specs.Packages.{value_at}
use Rattle.aml_code.proofs.LengthLaws.{three_bytes}
use Rattle.aml_code.proofs.packages.value_of.Goals as goal

pub overflow_cast-value-2 : goal.overflow_cast-value-2
overflow_cast-value-2 c = omega (arith, c.in_ok-high.ensures.below, three_bytes (c.args.lead / 64))

pub overflow_mul-value : goal.overflow_mul-value
overflow_mul-value c = omega (arith, c.in_ok-high.ensures.below, three_bytes (c.args.lead / 64))

pub overflow_add-value : goal.overflow_add-value
overflow_add-value c = omega (arith, c.in_ok-high.ensures.below, three_bytes (c.args.lead / 64))

pub returns-in_err-high-clause-exact : goal.returns-in_err-high-clause-exact
unfolding value_at
returns-in_err-high-clause-exact c = search (rules, tests)

pub returns-clause-exact : goal.returns-clause-exact
unfolding value_at
returns-clause-exact c = search (rules, tests)
