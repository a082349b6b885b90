use Rattle.std.proofs.Common.{refl}
use Rattle.acpidis_c.proofs.Running.{came}
use Rattle.acpidis_c.proofs.state.State.run_of.Goals as goal

pub returns-clause-ran : goal.returns-clause-ran
returns-clause-ran c = (
  refl,
  came c.args.self.now _ c.as_slice-dumps.ensures.value c.args.check _ _ _ _
      c.new-text.ensures.0 c.run_alone-ended.ensures
      c.in_ok-status.ensures.status,
)
