use Rattle.std.proofs.Common.{is_some, sym, ap, ◌∙◌}
use Rattle.std.specs.FinMap as map
use Rattle.aml_children.proofs.Basics.{some_map}
use Rattle.aml_namespace.specs.Kinds.{kind_in}
use Rattle.aml_namespace.proofs.Stands.{declared_listed}
use Rattle.aml_space.specs.Below.{path_below}
use Rattle.aml_space.proofs.spaces.Space.is_declared.Goals as goal

pub returns-clause-known : goal.returns-clause-known
returns-clause-known c = c.is_some.ensures ∙ sym (some_map (kind_in c.args.self.now.paths) c.declared.result) ∙ ap is_some c.declared.ensures
    ∙ some_map _ (map.get c.args.self.now.declarations (path_below c.args.self.now.paths c.args.path.now))

pub returns-clause-listed : goal.returns-clause-listed
returns-clause-listed c = λ es stands. declared_listed c.args.self.now es (path_below c.args.self.now.paths c.args.path.now) _ stands (returns-clause-known c)
