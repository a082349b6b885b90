use Rattle.std.proofs.Common.{refl}
use Rattle.aml_space.proofs.Stepping.{same_ways}
use Rattle.aml_space.proofs.ways.Ways.fill.Goals as goal

pub returns-in_err-reserve : goal.returns-in_err-reserve
returns-in_err-reserve c = same_ways c.args.nodes.now c.args.self.now _ c.in_err-reserve.ensures.items refl c.requires.ways

pub loop-self-init : goal.loop-self-init
loop-self-init c = same_ways c.args.nodes.now c.args.self.now _ c.in_ok-reserve.ensures.items refl c.requires.ways
