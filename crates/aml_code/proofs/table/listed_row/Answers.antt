use Rattle.std.proofs.Common.{None, Some, cond, sym, ap, ◌∙◌}
use Rattle.std.proofs.lemmas.Bool.{eq-eqb, ne_eqb}
use Rattle.std.specs.Option.{option_copied, option_map}
use Rattle.aml_code.specs.Opcodes.{row_view}
use Rattle.aml_code.proofs.RowIndex.{looked_up, kept, row_kept}
use Rattle.aml_code.proofs.table.listed_row.Goals as goal

pub returns-in-None : goal.returns-in-None
returns-in-None c =
    let at =
    looked_up c.args.opcode c.slot.result c.place_at.result _
    (option_copied c.row_at.result) c.slot.ensures.opcode c.place_at.ensures c.table.ensures c.row_at.ensures in
    sym (ap (kept c.args.opcode) (at ∙ ap (λ r. option_map row_view (option_copied r)) c.in-None.is)) ∙ row_kept c.args.opcode

pub returns-then-row-opcode : goal.returns-then-row-opcode
returns-then-row-opcode c =
    let at =
    looked_up c.args.opcode c.slot.result c.place_at.result _
    (option_copied c.row_at.result) c.slot.ensures.opcode c.place_at.ensures c.table.ensures c.row_at.ensures in
    sym (ap (λ b. cond b (Some (row_view c.in-Some.row.now)) None) (eq-eqb _ _ c.if-row-opcode.true))
    ∙ sym (ap (kept c.args.opcode) (at ∙ ap (λ r. option_map row_view (option_copied r)) c.in-Some.is)) ∙ row_kept c.args.opcode

pub returns-else-row-opcode : goal.returns-else-row-opcode
returns-else-row-opcode c =
    let at =
    looked_up c.args.opcode c.slot.result c.place_at.result _
    (option_copied c.row_at.result) c.slot.ensures.opcode c.place_at.ensures c.table.ensures c.row_at.ensures in
    sym (ap (λ b. cond b (Some (row_view c.in-Some.row.now)) None) (ne_eqb _ _ c.if-row-opcode.false))
    ∙ sym (ap (kept c.args.opcode) (at ∙ ap (λ r. option_map row_view (option_copied r)) c.in-Some.is)) ∙ row_kept c.args.opcode
