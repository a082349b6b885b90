use Rattle.std.proofs.Common.{None}
use Rattle.std.specs.Option.{option_copied}
use Rattle.aml_namespace.specs.Kinds.{kind_in}
use Rattle.aml_space.specs.Below.{path_below}
use Rattle.aml_load.specs.Walking.{at_site, source_path, sure_of}
use Rattle.aml_load.proofs.Holding.{declared_walked}
use Rattle.aml_load.proofs.walking.Progress.declare_of.Goals as goal

pub returns-clause-walks : goal.returns-clause-walks
returns-clause-walks c l h =
    let site = at_site c.args.self.now.space c.args.site.now in
    let p = (path_below c.args.self.now.space.paths c.args.path.now) in
    declared_walked c.args.self.now c.declare_path.new.self l site p (kind_in c.args.self.now.space.paths c.args.kind)
    (sure_of site l.entries p (source_path c.args.self.now.space.paths (option_copied c.args.source))) c.declare_path.result h
    (c.declare_path.ensures.declared l None h.space)
