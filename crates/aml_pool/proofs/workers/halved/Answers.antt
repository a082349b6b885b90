use Rattle.std.proofs.Common.{arith}
use Rattle.aml_pool.proofs.workers.halved.Goals as goal

pub returns-clause-all : goal.returns-clause-all
returns-clause-all c = omega arith
