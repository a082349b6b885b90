use Rattle.std.proofs.Common.{arith}
use Rattle.aml_code.proofs.Answered.{given_ok, given_fault}
use Rattle.aml_code.proofs.LengthLaws.{front_again, front_takes, front_fault, front_one}
use Rattle.aml_code.proofs.packages.read_pkg.Goals as goal

pub returns-clause-sound : goal.returns-clause-sound
returns-clause-sound c =
    given_ok (λ x. x) _ c.front_of.result _ c.front_of.ensures.exact (λ x. front_takes c.args.bytes.now x (λ i. omega (arith, c.type_inv.bytes i)))

pub returns-clause-one : goal.returns-clause-one
returns-clause-one c = given_ok (λ x. x) _ c.front_of.result _ c.front_of.ensures.exact (λ x e w v rest. front_one c.args.bytes.now x w v rest e)

pub returns-clause-complete : goal.returns-clause-complete
returns-clause-complete c =
    given_fault (λ x. x) _ c.front_of.result _ c.front_of.ensures.exact c.front_of.ensures.takes_none (λ d e w v rest fits text.
    absurd (cc (front_again c.args.bytes.now w v rest fits text, e)))

pub returns-clause-placed : goal.returns-clause-placed
returns-clause-placed c = given_fault (λ x. x) _ c.front_of.result _ c.front_of.ensures.exact c.front_of.ensures.takes_none (front_fault c.args.bytes.now)

pub returns-clause-exact : goal.returns-clause-exact
returns-clause-exact c = c.front_of.ensures.exact
