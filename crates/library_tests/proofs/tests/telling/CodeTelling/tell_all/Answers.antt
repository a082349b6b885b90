use Rattle.library_tests.proofs.tests.telling.CodeTelling.tell_all.Goals as goal

pub returns-clause-told : goal.returns-clause-told
returns-clause-told g c = (_, (tt, c.in_ok-tell_body.ensures.told.1.1))
