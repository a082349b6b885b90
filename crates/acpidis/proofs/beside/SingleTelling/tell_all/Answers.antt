use Rattle.std.proofs.Common.{OnOk, IfOk}
use Rattle.acpidis.proofs.Common.{Result, Ok, Err, ap, sym, ◌∙◌}
use Rattle.aml_code.specs.Pieces.{line_pieces}
use Rattle.aml_parse.proofs.Common.{ok_is}
use Rattle.aml_parse.proofs.Readings.{module_again}
use Rattle.acpidis.proofs.beside.SingleTelling.tell_all.Goals as goal

if_ok : {X E P : Type 0} {Q : X → Type 0} (r : Result X E) → ((x : X) → P → Q x) → OnOk r P → IfOk r Q
if_ok (Ok x) f p = f x p
if_ok (Err e) f p = p

pub returns-clause-told : goal.returns-clause-told
returns-clause-told g c = if_ok c.tell_module.result
    (λ made told. (
      line_pieces 1 told.0,
      ((λ ts h. ap (line_pieces 1) (ok_is told.0 ts (sym told.1.1.0 ∙ module_again _ ts h))), told.1.1.1),
    ))
    c.tell_module.ensures.told
