use Rattle.acpidis.proofs.TrialLaws.{first_is}
use Rattle.acpidis.proofs.trials.TrialsTableSink.take.Goals as goal

pub returns-clause-kept : goal.returns-clause-kept
returns-clause-kept g c =
    let told = c.in_ok-made.ensures.told in (
      told.0,
      (
        told.1.0,
        λ short level ts is.
            first_is c.args.code.now ts c.of_table.result c.in_ok-made.same (c.of_table.ensures short) (told.1.1 level ts is),
      ),
    )
