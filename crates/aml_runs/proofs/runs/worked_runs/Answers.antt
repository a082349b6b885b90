use Rattle.std.proofs.Common.{true, false, []}
use Rattle.aml_runs.proofs.WorkedRuns.{early, untaken, left, under_name, opened, unsourced, aimed}
use Rattle.aml_runs.proofs.runs.worked_runs.Goals as goal

pub returns-clause-early : goal.returns-clause-early
returns-clause-early c = early (λ tables. c.loads_forward.ensures.found true false [] tables)

pub returns-clause-untaken : goal.returns-clause-untaken
returns-clause-untaken c = untaken (λ tables. c.loads_forward.ensures.found true false [] tables)

pub returns-clause-left : goal.returns-clause-left
returns-clause-left c = left (λ tables. c.loads_forward.ensures.found true false [] tables)

pub returns-clause-named : goal.returns-clause-named
returns-clause-named c = under_name (λ tables. c.loads_forward.ensures.found true false [] tables)

pub returns-clause-aimed : goal.returns-clause-aimed
returns-clause-aimed c = aimed (λ tables. c.loads_forward.ensures.found true false [] tables)

pub returns-clause-opened : goal.returns-clause-opened
returns-clause-opened c = opened (λ tables. c.loads_forward.ensures.found true false [] tables)

pub returns-clause-unsourced : goal.returns-clause-unsourced
returns-clause-unsourced c = unsourced (λ tables. c.loads_forward.ensures.found true false [] tables)
