use Rattle.aml_parse.proofs.Common.{rules, nothing}
use Rattle.aml_parse.proofs.ShortLaws.{absent_read}
use Rattle.aml_parse.proofs.short.tell_short.Goals as goal

pub returns-in_ok-tell-in-len1-up-clause-told : goal.returns-in_ok-tell-in-len1-up-clause-told
returns-in_ok-tell-in-len1-up-clause-told g c arity scope ls = (
  nothing,
  (
    absent_read arity scope c.args.here.levels c.args.here.position c.args.end ls c.args.bytes.now (search rules) c.in-len1-up.len_at_least
        (search rules),
    (tt, c.in_ok-tell-in-len1-up.ensures),
  ),
)
