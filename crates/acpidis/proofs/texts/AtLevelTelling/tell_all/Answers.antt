use Rattle.acpidis.proofs.Common.{refl}
use Rattle.std.proofs.lemmas.Result.{on_ok_weaker}
use Rattle.acpidis.proofs.UnreadLaws.{err_both, raw_or}
use Rattle.acpidis.proofs.texts.AtLevelTelling.tell_all.Goals as goal

pub returns-clause-told : goal.returns-clause-told
returns-clause-told g c =
    on_ok_weaker c.tell_span.result (λ told. (_, ((told.0, (told.1.0, refl)), told.1.1))) c.tell_span.ensures.told

pub returns-clause-fails : goal.returns-clause-fails
returns-clause-fails g c =
    err_both c.tell_span.result _ _ _ (λ fault fails first. raw_or c.args.self.unread.now c.requires fault fails first)
    c.tell_span.ensures.fails c.tell_span.ensures.forward
