use Rattle.acpidis.proofs.Common.{tried_marks}
use Rattle.acpidis.proofs.CheckLaws.{Counted}
use Rattle.acpidis.proofs.checking.count_methods.Given as goal

abbrev pub invariant-loop-number : goal.invariant-loop-number
invariant-loop-number l = Counted (tried_marks l.methods l.tried) l.number l.initial.all.items l.all.items
