use Rattle.acpidis.proofs.Common.{◌∙◌, ap, sym, subst, arith, length, HoldsTable, bytes_of}
use Rattle.acpidis.proofs.TableLaws.{aml_of, aml_within}
use Rattle.acpidis.proofs.tables.table_at.Goals as goal

pub aml_in-requires : goal.aml_in-requires
aml_in-requires c = record { table = subst HoldsTable (sym c.bytes_of.ensures) c.requires.table }

pub unread-requires : goal.unread-requires
unread-requires c =
    let code = c.aml_in.ensures ∙ ap aml_of c.bytes_of.ensures in
    omega (arith, aml_within (bytes_of c.args.dumps.now c.args.dump), ap length code, c.requires.short)

pub returns-clause-of_code : goal.returns-clause-of_code
returns-clause-of_code c = c.unread.ensures.of_code ∙ c.aml_in.ensures ∙ ap aml_of c.bytes_of.ensures
