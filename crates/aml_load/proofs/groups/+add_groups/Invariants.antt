use Rattle.std.proofs.Common.{length}
use Rattle.aml_load.proofs.groups.+add_groups.Given as goal

abbrev pub decreases-add_groups : goal.decreases-add_groups
decreases-add_groups l = length l.more.now.items
