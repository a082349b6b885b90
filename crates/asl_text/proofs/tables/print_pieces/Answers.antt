use Rattle.std.proofs.Common.{sym, IfOk, Result, Ok, Err}
use Rattle.asl_text.specs.TextLaws.{grew_from}
use Rattle.asl_text.proofs.tables.print_pieces.Goals as goal

if_ok : {X E : Type 0} {P Q : X → Type 0} (r : Result X E) → ((x : X) → P x → Q x) → IfOk r P → IfOk r Q
if_ok (Ok x) f p = f x p
if_ok (Err _) f p = p

pub returns-clause-told : goal.returns-clause-told
returns-clause-told g c = if_ok c.tell_all.result
    (λ _ told. (
      told.0,
      (
        told.1.0,
        rw (c.out-1.given.1 (sym told.1.1.0.0)) (rw (c.places-1.given.1 (sym told.1.1.0.1)) (grew_from c.args.out.now c.args.places.now.items c.tell_all.new.sink told.0 told.1.1.1)),
      ),
    ))
    c.tell_all.ensures.told
