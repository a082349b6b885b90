use Rattle.acpidis.proofs.Common.{AllZip, IfSome, subst, sym, table_codes}
use Rattle.acpidis.specs.Beside.{IsLoad, IsPart, IsTextOf}
use Rattle.acpidis.proofs.BesideLaws.{parted}
use Rattle.acpidis.proofs.beside.Beside.taken_apart.Goals as goal

pub returns-in-Some-Set-Ok-clause-set : goal.returns-in-Some-Set-Ok-clause-set
returns-in-Some-Set-Ok-clause-set c =
    let w = c.args.self.now in
    let codes = table_codes w.tables.now in
    let met = c.in-Some-Set-Ok in
    let all = parted w.dumps.now w.options.now w.tables.now c.args.parts.items _ met.field-0 _ c.into_iter-parts.ensures.rest met.ensures.items
    c.requires.all c.requires.each in (
      (subst (IsLoad w.dumps.now w.options.now) met.field-0-0-is (subst (IsPart w.dumps.now w.options.now codes 0) met.field-0-is all.0)).0,
      subst (AllZip (λ code text. IfSome text (IsTextOf code)) codes) (sym c.in_ok-texts-in-Some-Set-Ok.ensures) all.1,
    )

pub returns-in-Some-Set-Err-clause-complete : goal.returns-in-Some-Set-Err-clause-complete
returns-in-Some-Set-Err-clause-complete c =
    let w = c.args.self.now in
    let met = c.in-Some-Set-Err in
    let all = parted w.dumps.now w.options.now w.tables.now c.args.parts.items _ met.field-0 _ c.into_iter-parts.ensures.rest met.ensures.items
    c.requires.all c.requires.each in
    (subst (IsLoad w.dumps.now w.options.now) met.field-0-0-is
    (subst (IsPart w.dumps.now w.options.now (table_codes w.tables.now) 0) met.field-0-is all.0)).1
