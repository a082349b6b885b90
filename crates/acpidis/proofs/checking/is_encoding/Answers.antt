use Rattle.std.proofs.Common.{rules}
use Rattle.acpidis.proofs.checking.is_encoding.Goals as goal

pub returns : goal.returns
returns c = search rules
