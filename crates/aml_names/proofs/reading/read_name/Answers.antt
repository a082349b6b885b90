use Rattle.std.proofs.Common.{arith}
use Rattle.aml_names.proofs.NameLaws.{Front, name_front, one_name, fails_none, fails_placed}
use Rattle.aml_names.proofs.reading.read_name.Goals as goal

front : (c : goal.In-Ok) → Front c.args.bytes.now c.in-Ok.name c.in-Ok.rest.now
front c = name_front _ _ _ _ (λ i. omega (arith, c.type_inv.bytes i)) c.in-Ok.ensures.exact

pub overflow_sub-result : goal.overflow_sub-result
overflow_sub-result c = (front c).room

pub returns-in-Ok-clause-sound : goal.returns-in-Ok-clause-sound
returns-in-Ok-clause-sound c = (front c).spelled

pub returns-in-Ok-clause-one : goal.returns-in-Ok-clause-one
returns-in-Ok-clause-one c = one_name _ _ _ _ c.in-Ok.ensures.exact

pub returns-in-Ok-clause-exact : goal.returns-in-Ok-clause-exact
returns-in-Ok-clause-exact c = rw (front c).left c.in-Ok.ensures.exact

pub returns-in-Err-clause-complete : goal.returns-in-Err-clause-complete
returns-in-Err-clause-complete c = fails_none _ _ _ c.in-Err.ensures.exact

pub returns-in-Err-clause-placed : goal.returns-in-Err-clause-placed
returns-in-Err-clause-placed c = fails_placed _ _ _ c.in-Err.ensures.exact
