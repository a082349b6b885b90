use Rattle.std.proofs.Common.{sym, subst, ◌∙◌}
use Rattle.acpidis_c.specs.States.{IsNew}
use Rattle.acpidis_c.proofs.Calling.{opens}
use Rattle.acpidis_c.proofs.acpidis_c_open.Goals as goal

pub returns-in-Ok : goal.returns-in-Ok
returns-in-Ok c =
    opens _ _ _ (sym c.is_open.ensures ∙ c.if-is_open.false) c.put.ensures
    (subst IsNew (sym c.in-Ok.ensures.ok) c.new.ensures)
