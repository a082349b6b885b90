use Rattle.aml_load.proofs.groups.add_asked.Goals as goal

pub returns-clause-added : goal.returns-clause-added
returns-clause-added c k = rw (c.in_ok-push.ensures.items, c.in_ok-names.ensures.items) at (c.add_group.ensures.added k)
