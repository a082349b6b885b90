use Rattle.acpidis_c.proofs.Calling.{on_ok}
use Rattle.acpidis_c.proofs.step.AddStep.step.Goals as goal

pub returns-clause-done : goal.returns-clause-done
returns-clause-done c =
    on_ok c.add.result (λ added. (c.in_ok-dump.dump, c.in_ok-dump.ensures.dump, added)) c.add.ensures.added
