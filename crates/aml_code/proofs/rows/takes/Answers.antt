use Rattle.std.proofs.Common.{rules}
use Rattle.aml_code.proofs.rows.takes.Goals as goal

pub returns-after-matches-3 : goal.returns-after-matches-3
returns-after-matches-3 c = search rules
