use Rattle.acpidis.proofs.Common.{◌∙◌, tallied, tried_marks}
use Rattle.acpidis.proofs.CheckLaws.{under_new}
use Rattle.acpidis.proofs.checking.check_tables.Goals as goal

pub count_methods-requires-clause-new : goal.count_methods-requires-clause-new
count_methods-requires-clause-new g c = rw c.in_ok-all.ensures (under_new (g.T.Blocks.blocks c.args.tables.now))

pub returns : goal.returns
returns g c = c.count_methods.ensures ∙ (λ i. tallied (tried_marks c.args.methods.now c.args.tried.now) 0 (c.in_ok-all.ensures i))
