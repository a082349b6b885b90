use Rattle.std.proofs.Common.{rules}
use Rattle.acpidis.proofs.texts.level_of.Goals as goal

pub returns : goal.returns
returns c = search rules
