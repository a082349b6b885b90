use Rattle.acpi_tables.proofs.Common.{◌-◌, arith}
use Rattle.acpi_tables.proofs.Digits.{power_more, power_positive, power_small, digits_value-digit}
use Rattle.acpi_tables.proofs.by_name.+ending_digits.Goals as goal

pub overflow_mul-result : goal.overflow_mul-result
overflow_mul-result t c = omega (
  arith,
  c.ending_digits.ensures.bound,
  power_small (c.args.count - 1) (omega arith),
  power_more c.args.count (omega arith),
  power_small c.args.count c.requires,
)

pub overflow_add-result : goal.overflow_add-result
overflow_add-result t c =
    omega (arith, c.from.ensures, c.ending_digits.ensures.bound, power_more c.args.count (omega arith), power_small c.args.count c.requires)

pub returns-in-48-to-57-clause-bound : goal.returns-in-48-to-57-clause-bound
returns-in-48-to-57-clause-bound t c = omega (arith, c.from.ensures, c.ending_digits.ensures.bound, power_more c.args.count (omega arith))

pub returns-in-48-to-57-clause-value : goal.returns-in-48-to-57-clause-value
returns-in-48-to-57-clause-value t c =
    omega (
      arith,
      c.from.ensures,
      c.ending_digits.ensures.value,
      digits_value-digit c.args.bytes.now c.args.count (omega arith) (omega arith) (omega arith)
          (omega arith),
    )

pub returns-in_default-clause-bound : goal.returns-in_default-clause-bound
returns-in_default-clause-bound t c = power_positive c.args.count

pub returns-in_default-2-clause-bound : goal.returns-in_default-2-clause-bound
returns-in_default-2-clause-bound t c = power_positive c.args.count

pub returns-in_default-3-clause-bound : goal.returns-in_default-3-clause-bound
returns-in_default-3-clause-bound t c = power_positive c.args.count
