use Rattle.aml_parse.proofs.Common.{rules}
use Rattle.aml_parse.proofs.packages.package_of.Goals as goal

pub returns-clause-exact : goal.returns-clause-exact
returns-clause-exact c = search rules

pub returns-clause-ends : goal.returns-clause-ends
returns-clause-ends c = search rules
