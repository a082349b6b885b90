use Rattle.aml_parse.proofs.Common.{rules}
use Rattle.aml_parse.proofs.parser.Parser.count.Goals as goal

pub returns-in-None : goal.returns-in-None
returns-in-None g c = search rules

pub returns-in-Some : goal.returns-in-Some
returns-in-Some g c = search rules
