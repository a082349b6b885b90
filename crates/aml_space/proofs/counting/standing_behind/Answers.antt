use Rattle.std.proofs.Common.{sym, ap, ◌∙◌}
use Rattle.std.specs.Option.{option_copied, option_map}
use Rattle.aml_namespace.specs.Known.{kinds_by}
use Rattle.aml_namespace.specs.Kinds.{target_in}
use Rattle.aml_namespace.proofs.Aimed.{kinds_aimed}
use Rattle.aml_space.specs.Nodes.{said_in}
use Rattle.aml_space.proofs.counting.standing_behind.Goals as goal

pub returns-else-is_surely_declared : goal.returns-else-is_surely_declared
returns-else-is_surely_declared c paths =
    let said = option_copied c.args.said in
    sym (kinds_aimed (target_in paths) said c.standing_at.result)
    ∙ ap (kinds_by (option_map (said_in paths) said)) (c.standing_at.ensures paths)
