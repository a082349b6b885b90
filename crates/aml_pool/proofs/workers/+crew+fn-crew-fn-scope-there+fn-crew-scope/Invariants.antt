use Rattle.std.proofs.Common.{◌+◌, ◌*◌}
use Rattle.aml_pool.proofs.workers.+crew+fn-crew-fn-scope-there+fn-crew-scope.Given as goal

abbrev pub decreases-crew : goal.decreases-crew
decreases-crew g l = 3 * l.workers + 2

abbrev pub decreases-scope-there : goal.decreases-scope-there
decreases-scope-there g l = 3 * l.others + 3

abbrev pub decreases-scope : goal.decreases-scope
decreases-scope g l = 3 * (l.mine + l.others) + 1
