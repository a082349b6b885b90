use Rattle.std.proofs.Common.{rules}
use Rattle.acpidis.proofs.disassembling.refused_order.Goals as goal

pub returns-in_default-clause-other : goal.returns-in_default-clause-other
returns-in_default-clause-other c = search rules
