use Rattle.acpidis.proofs.Sharing.{part_send}
use denote.Param.Send.{param_send, arg_send}
use denote.Exit.{no}
use Rattle.acpidis.proofs.beside.load_beside.Goals as goal

pub harvest-requires-send-W-Done : goal.harvest-requires-send-W-Done
harvest-requires-send-W-Done g c κs within = param_send 3 _ (arg_send _ no _ (part_send _))
