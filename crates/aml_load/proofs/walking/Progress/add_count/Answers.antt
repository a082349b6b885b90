use Rattle.std.proofs.Common.{refl}
use Rattle.aml_namespace.specs.Namespace.{external}
use Rattle.aml_space.specs.Below.{path_below}
use Rattle.aml_namespace.proofs.Numbers.{still_at}
use Rattle.aml_load.specs.Declaring.{plus}
use Rattle.aml_load.proofs.Holding.{plain_held}
use Rattle.aml_load.proofs.walking.Progress.add_count.Goals as goal

pub returns-clause-walks : goal.returns-clause-walks
returns-clause-walks c l h =
    let x = external (path_below c.args.self.now.space.paths c.args.path.now) c.args.count in (
      plus l x,
      plain_held c.args.self.now _ l x refl h (c.in_ok-put_external.ensures.stands l.entries h.space) refl refl
          (λ id p. still_at _ _ id p c.in_ok-put_external.ensures.ok),
      refl,
    )
