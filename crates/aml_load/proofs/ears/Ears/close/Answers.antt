use Rattle.aml_code.specs.Tree.{nothing, child}
use Rattle.aml_load.specs.Hearing.{behind_part, left}
use Rattle.aml_load.proofs.Steps.{goes_then}
use Rattle.aml_load.proofs.ears.Ears.close.Goals as goal

pub returns : goal.returns
returns c k =
    goes_then k c.args.self.now c.leave.new.self c.pass.new.self left (behind_part (child nothing)) (c.leave.ensures k) (c.in_ok-pass.ensures k)
