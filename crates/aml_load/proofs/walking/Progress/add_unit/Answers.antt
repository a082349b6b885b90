use Rattle.std.proofs.Common.{refl, subst}
use Rattle.aml_load.specs.Walking.{at_site, Walked}
use Rattle.aml_load.proofs.Holding.{unit_is}
use Rattle.aml_load.proofs.walking.Progress.add_unit.Goals as goal

pub returns-clause-walks : goal.returns-clause-walks
returns-clause-walks c l h = subst (Walked c.declare.new.self c.declare.result)
    (unit_is (at_site c.args.self.now.space c.args.site.now) l _ c.args.seg.now refl) (c.declare.ensures.walks l h)
