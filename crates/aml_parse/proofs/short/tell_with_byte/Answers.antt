use Rattle.aml_parse.proofs.Common.{row_view, sym, ap, length}
use Rattle.aml_parse.proofs.ShortLaws.{told_with_byte}
use Rattle.aml_parse.proofs.short.tell_with_byte.Goals as goal

pub returns : goal.returns
returns g c level =
    told_with_byte _ g.met.S.Sink.further level (row_view c.args.row.now) _ c.requires.listed _ _ _ _ _ c.args.value
    (sym (ap length c.requires.byte)) c.in_ok-tell.ensures c.in_ok-tell-2.ensures c.in_ok-tell-3.ensures c.in_ok-tell-4.ensures
