use Rattle.std.proofs.Common.{true}
use Rattle.aml_load.specs.Hearing.{closed_by, left, top}
use Rattle.aml_load.proofs.Steps.{hears_on, if_err_by, on_ok_by, stops_on}
use Rattle.aml_load.proofs.hearing.Hearing.end_list.Goals as goal

pub close-requires : goal.close-requires
close-requires c = (c.leave.ensures c.args.self.now.progress.space).numbered c.requires

pub returns-clause-hears : goal.returns-clause-hears
returns-clause-hears c =
    let old = c.args.self.now in
    on_ok_by c.close.result
    (hears_on old.progress old.ears c.leave.new.self c.close.new.self left (λ x. closed_by true (top x.around) (0, 0) x) (c.leave.ensures old.progress.space))
    c.close.ensures.hears

pub returns-clause-stops : goal.returns-clause-stops
returns-clause-stops c =
    let old = c.args.self.now in
    if_err_by c.close.result
    (λ e. stops_on old.progress old.ears c.leave.new.self left (λ x. closed_by true (top x.around) (0, 0) x) e (c.leave.ensures old.progress.space))
    c.close.ensures.stops
