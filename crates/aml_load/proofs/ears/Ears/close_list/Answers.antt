use Rattle.aml_load.specs.Hearing.{closed, left}
use Rattle.aml_load.proofs.Steps.{goes_then, on_ok_by}
use Rattle.aml_load.proofs.ears.Ears.close_list.Goals as goal

pub returns : goal.returns
returns c k =
    on_ok_by c.close.result (goes_then k c.args.self.now c.leave.new.self c.close.new.self left closed (c.leave.ensures k)) (c.close.ensures k)
