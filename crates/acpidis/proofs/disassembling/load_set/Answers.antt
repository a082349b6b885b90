use Rattle.acpidis.proofs.Common.{table_terms, err_from_is_err_and, table_codes, ◌∙◌}
use Rattle.acpidis.proofs.MeaningLaws.{set_so, tells_blocks, none_meant}
use Rattle.acpidis.proofs.disassembling.load_set.Goals as goal

pub returns-in_err-order-clause-true_load : goal.returns-in_err-order-clause-true_load
returns-in_err-order-clause-true_load c =
    let gave = err_from_is_err_and c.from_residual.result c.from_residual.ensures.1 in
    rw (gave.1, gave.2) (c.in_err-order.ensures.of_order c.args.dumps.now c.args.options.now)

pub returns-in-Err-clause-true_table : goal.returns-in-Err-clause-true_table
returns-in-Err-clause-true_table c = c.in-Err.ensures.of_load c.args.dumps.now c.args.options.now.any_sum

pub returns-in-Err-clause-true_load : goal.returns-in-Err-clause-true_load
returns-in-Err-clause-true_load c =
    tells_blocks c.args.dumps.now c.args.options.now c.in_ok-order.order (table_codes c.in_ok-tables.tables.items)
    c.in_ok-order.ensures.order c.in_ok-order.ensures.only c.in_ok-tables.ensures.codes c.in-Err.refusal c.in-Err.ensures.tells

pub returns-in-Err-clause-complete : goal.returns-in-Err-clause-complete
returns-in-Err-clause-complete c =
    none_meant c.args.dumps.now c.args.options.now c.in_ok-order.order (table_codes c.in_ok-tables.tables.items)
    c.in_ok-order.ensures.order c.in_ok-order.ensures.only c.in_ok-tables.ensures.codes c.in-Err.refusal c.in-Err.ensures.complete

pub returns-clause-order : goal.returns-clause-order
returns-clause-order c = c.in-Ok.ensures.dumps ∙ c.in_ok-tables.ensures.dumps

pub returns-clause-set : goal.returns-clause-set
returns-clause-set c =
    set_so c.args.dumps.now c.args.options.now c.in_ok-order.order (table_codes c.in_ok-tables.tables.items)
    c.in_ok-order.ensures.order c.in_ok-order.ensures.only c.in_ok-tables.ensures.codes
    c.in-Ok.set (table_terms c.in-Ok.set.tables.items) (c.in-Ok.ensures.dumps ∙ c.in_ok-tables.ensures.dumps) c.in-Ok.ensures.sound c.in-Ok.ensures.one c.in-Ok.ensures.few
