use Rattle.std.proofs.Common.{Option, Vec}
use Rattle.std.specs.Global.{Global}
use Rattle.acpidis.proofs.Common.{AllZip, IfSome, TableSet, subst, table_codes}
use Rattle.asl_text.specs.declared.tables.TableText.{TableText}
use Rattle.acpidis.specs.Beside.{IsLoaded, IsTextOf}
use Rattle.acpidis.proofs.ToldLaws.{set_beside}
use Rattle.acpidis.proofs.told.load_texts.Goals as goal

pub or_terms-requires : goal.or_terms-requires
or_terms-requires g c = λ each.
    let dumps = c.args.dumps.now in
    let options = c.args.options.now in
    let told = c.in-Some.told in
    let has = subst (λ (o : Option (TableSet × Vec (Option TableText) Global)). IfSome o (λ x. IsLoaded dumps options x.0
    × AllZip (λ code text. IfSome text (IsTextOf code)) (table_codes x.0.tables.items) x.1.items)) c.in-Some.is c.in_ok-told.ensures.set in
    set_beside dumps options told.0 told.1.items (c.is_shared.ensures c.if-is_shared.true) has.0 has.1 each
