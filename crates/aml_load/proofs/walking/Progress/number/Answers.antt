use Rattle.std.proofs.Common.{refl}
use Rattle.aml_load.proofs.Holding.{grown_held}
use Rattle.aml_load.proofs.Inside.{grows_keeps}
use Rattle.aml_load.proofs.walking.Progress.number.Goals as goal

pub returns-clause-holds : goal.returns-clause-holds
returns-clause-holds c l h = grown_held c.args.self.now _ l c.number.ensures.grows refl refl h

pub returns-clause-stays : goal.returns-clause-stays
returns-clause-stays c = grows_keeps c.args.self.now.space c.number.new.self c.number.ensures.grows
