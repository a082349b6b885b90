use Rattle.std.proofs.Common.{◌≤◌, IfErr, inr, length, rules}
use Rattle.std.proofs.lemmas.Result.{IfErr-weaker, IfOk-weaker}
use Rattle.acpi_tables.specs.Order.{RefusesBytes}
use Rattle.acpi_tables.proofs.Blocks.{are_tables}
use Rattle.acpi_tables.proofs.Refused.{bytes_not_refused, ok_says, order_not_refused}
use Rattle.acpi_tables.proofs.Unique.{order_unique}
use Rattle.acpi_tables.proofs.order.load_order.Goals as goal

pub returns-clause-only : goal.returns-clause-only
returns-clause-only c =
    IfOk-weaker c.find_order.result _ _ (λ order blocks dsdt ssdts other. order_unique _ _ _ _ _ _ other.blocks blocks) c.find_order.ensures.blocks

pub returns-clause-tables : goal.returns-clause-tables
returns-clause-tables c =
    IfOk-weaker c.find_order.result _ _ (λ order blocks. are_tables _ _ c.in_ok-check_dumps.ensures.taken _ _ _ blocks) c.find_order.ensures.blocks

pub returns-clause-sound : goal.returns-clause-sound
returns-clause-sound c =
    let few : length c.args.dumps.now ≤ 512 = search rules in
    ok_says c.find_order.result (λ order blocks fault. order_not_refused _ _ _ _ fault few c.in_ok-check_dumps.ensures.taken blocks)
    c.find_order.ensures.blocks

pub returns-in_err-check_dumps-clause-none : goal.returns-in_err-check_dumps-clause-none
returns-in_err-check_dumps-clause-none c =
    let refused : IfErr c.from_residual.result (RefusesBytes c.args.dumps.now c.args.any_sum) = search rules in
    IfErr-weaker c.from_residual.result _ _ (λ fault bytes. inr (λ dsdt ssdts is. bytes_not_refused _ _ fault is.each bytes)) refused
