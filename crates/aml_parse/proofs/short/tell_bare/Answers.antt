use Rattle.aml_parse.proofs.Common.{row_view, sym, ap, length}
use Rattle.aml_parse.proofs.ShortLaws.{told_bare}
use Rattle.aml_parse.proofs.short.tell_bare.Goals as goal

pub returns : goal.returns
returns g c level =
    told_bare _ g.met.S.Sink.further level (row_view c.args.row.now) _ c.requires.listed _ _ _ _ (g.met.S.Sink.nothing _)
    (sym (ap length c.requires.bare)) c.in_ok-tell.ensures c.in_ok-tell-2.ensures c.in_ok-tell-3.ensures
