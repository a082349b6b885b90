use Rattle.std.proofs.Common.{refl}
use Rattle.aml_load.specs.Groups.{uses_of}
use Rattle.aml_load.proofs.Holding.{uses_held}
use Rattle.aml_load.proofs.Steps.{of_both}
use Rattle.aml_load.proofs.walking.Progress.keep_uses.Goals as goal

pub returns-clause-holds : goal.returns-clause-holds
returns-clause-holds c =
    let old = c.args.self.now in
    let k = old.space in
    of_both c.add_groups.result (λ l h. c.add_groups.ensures.added k) (λ l h. c.add_groups.ensures.known k c.requires h.known)
    (λ l h added known. uses_held old _ l (uses_of k c.args.uses.now.items) h refl refl added known)
