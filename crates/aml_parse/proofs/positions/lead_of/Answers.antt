use Rattle.aml_parse.proofs.Common.{rules}
use Rattle.aml_parse.proofs.positions.lead_of.Goals as goal

pub returns-then-is_name_lead : goal.returns-then-is_name_lead
returns-then-is_name_lead c = search rules

pub returns-then-is_absent_target : goal.returns-then-is_absent_target
returns-then-is_absent_target c = search rules
