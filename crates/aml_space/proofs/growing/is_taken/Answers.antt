use Rattle.std.specs.Option.{option_and_then}
use Rattle.std.proofs.Common.{is_some, sym, ap, ◌∙◌}
use Rattle.aml_space.specs.Nodes.{kinds_of}
use Rattle.aml_space.proofs.Reaching.{left_none}
use Rattle.aml_space.proofs.growing.is_taken.Goals as goal

pub returns-else-is_empty-clause-taken : goal.returns-else-is_empty-clause-taken
returns-else-is_empty-clause-taken c =
    let ns = c.args.nodes.now in
    c.if-is_empty.false ∙ sym (ap (λ o. is_some (option_and_then (kinds_of ns) o))
    (left_none ns c.requires.index c.args.reach c.requires.reach (sym c.is_empty.ensures ∙ c.if-is_empty.false)))
