use Rattle.std.proofs.Common.{◌+◌, drop, subst, ◌∙◌}
use Rattle.std.proofs.lemmas.List.{drop_more}
use Rattle.std.proofs.lemmas.Result.{err_from_is_err_and}
use Rattle.aml_load.specs.Tables.{Fails}
use Rattle.aml_load.specs.Walking.{at_site}
use Rattle.aml_load.proofs.Holding.{segments_more, segments_fail}
use Rattle.aml_load.proofs.Inside.{same_site, still_among, keeps_on}
use Rattle.aml_load.proofs.walking.Progress.add_segments.Goals as goal

pub add_unit-requires : goal.add_unit-requires
add_unit-requires c = still_among c.args.self.now.space c.loop-seg.self.space c.loop-seg.invariant.stays c.args.site.now.scope c.requires

pub returns-in_err-add_unit-clause-walks : goal.returns-in_err-add_unit-clause-walks
returns-in_err-add_unit-clause-walks c l h =
    let old = c.args.self.now.space in
    let mid = c.loop-seg.self.space in
    let n = c.loop-seg.seg-index in
    let segs = c.args.segs.now in
    let e = c.in_err-add_unit.field-0.0 in
    let before = c.loop-seg.invariant.walks l h in
    let gave = err_from_is_err_and c.from_residual.result c.from_residual.ensures.1 in
    let here = same_site old mid c.loop-seg.invariant.stays c.args.site.now c.requires in
    rw (gave.1, gave.2) (subst (Fails e) before.2
    (segments_fail (at_site old c.args.site.now) _ before.0 (drop n segs) (drop (n + 1) segs) e here (drop_more segs n _ c.loop-seg-test.true)
    (c.in_err-add_unit.ensures.walks before.0 before.1)))

pub loop-seg-preserved : goal.loop-seg-preserved
loop-seg-preserved c = record {
  stays = keeps_on c.args.self.now.space c.loop-seg.self.space c.add_unit.new.self.space c.loop-seg.invariant.stays c.in_ok-add_unit.ensures.stays;
  walks = λ l h.
      let old = c.args.self.now.space in
      let n = c.loop-seg.seg-index in
      let segs = c.args.segs.now in
      let before = c.loop-seg.invariant.walks l h in
      let here = same_site old c.loop-seg.self.space c.loop-seg.invariant.stays c.args.site.now c.requires in
      let next = c.in_ok-add_unit.ensures.walks before.0 before.1 in (
        next.0,
        next.1,
        segments_more (at_site old c.args.site.now) _ before.0 next.0 (drop n segs) (drop (n + 1) segs) here
            (drop_more segs n _ c.loop-seg-test.true) next.2 ∙ before.2,
      );
}
