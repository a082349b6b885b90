use Rattle.acpidis.proofs.Common.{length, drop, ap, ◌∙◌, ◌-◌, arith, length-drop, take_all}
use Rattle.acpidis.proofs.tables.aml_in.Goals as goal

pub returns : goal.returns
returns c =
    let table = c.table_of.result.now in
    take_all (length table - 36) (drop 36 table) (omega (arith, length-drop 36 table)) ∙ ap (drop 36) c.table_of.ensures
