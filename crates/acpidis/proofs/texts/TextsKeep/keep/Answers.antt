use Rattle.acpidis.proofs.Common.{Ok, Err, ap, ◌∙◌, refl, rules, all_lines}
use Rattle.acpidis.proofs.UnreadLaws.{told_reads, told_lines, not_want}
use Rattle.acpidis.proofs.texts.TextsKeep.keep.Goals as goal

pub returns-in-Ok-Some : goal.returns-in-Ok-Some
returns-in-Ok-Some c =
    let told = rw c.in-Ok-Some.field-0-is at c.in-Ok-Some.ensures.told in
    let unread = c.args.unread.now in
    let tells = told.2.0 in (
      Ok tells.0,
      (
        told_reads unread c.requires tells.0 tells.1.0,
        told_lines unread c.requires c.level_of-level.result tells.0 told.1 _ tells.1.0 tells.1.1 told.2.1
            ∙ ap (λ level. all_lines level tells.0) c.level_of-level.ensures,
      ),
    )

pub returns-in-Err : goal.returns-in-Err
returns-in-Err c = (Err c.in-Err.fault, (not_want c.in-Err.fault (λ want. search rules) c.in-Err.ensures.fails, refl))
