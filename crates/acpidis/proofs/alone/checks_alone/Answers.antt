use Rattle.acpidis.proofs.TrialLaws.{tried_set}
use Rattle.acpidis.proofs.alone.checks_alone.Goals as goal

pub print_trials-requires-clause-set : goal.print_trials-requires-clause-set
print_trials-requires-clause-set g c =
    rw (c.without_texts.ensures.dumps, c.without_texts.ensures.set)
    (tried_set (record { alloc = c.args.alloc }) c.args.dumps.now c.args.options.now c.in_ok-set.set c.in_ok-set.checks.items
    c.in_ok-set.ensures.set)

pub print_trials-requires-clause-kept : goal.print_trials-requires-clause-kept
print_trials-requires-clause-kept g c = rw (c.without_texts.ensures.set, c.as_slice.ensures.value) c.in_ok-found.ensures.kept
