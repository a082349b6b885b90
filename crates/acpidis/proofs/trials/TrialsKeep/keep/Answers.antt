use Rattle.acpidis.proofs.Common.{Ok, Err, refl, rules, IsSame}
use Rattle.acpidis.proofs.UnreadLaws.{told_reads, not_want}
use Rattle.acpidis.proofs.trials.TrialsKeep.keep.Goals as goal

pub returns-in-Ok : goal.returns-in-Ok
returns-in-Ok c =
    let told = c.in-Ok.ensures.told in
    let unread = c.args.unread.now in
    let tells = told.1.0 in
    let same : IsSame unread.bytes.now tells.0 c.in-Ok.same = told.1.1 0 tells.0 tells.1.1 in
    (Ok tells.0, (told_reads unread c.requires tells.0 tells.1.0, same))

pub returns-in-Err : goal.returns-in-Err
returns-in-Err c = (Err c.in-Err.fault, (not_want c.in-Err.fault (λ want. search rules) c.in-Err.ensures.fails, refl))
