use Rattle.std.proofs.Common.{sym, ◌∙◌}
use Rattle.aml_code.specs.Pieces.{piece_view}
use Rattle.aml_load.proofs.Steps.{said_on}
use Rattle.aml_load.proofs.hearer.Hearer.take.Goals as goal

pub returns-in-Ok : goal.returns-in-Ok
returns-in-Ok c = λ r says.
    said_on c.args.self.now.hearing c.hear.new.self c.args.self.now.fault (piece_view c.args.piece.now) r
    (sym c.is_some.ensures ∙ c.if-is_some.false) c.in-Ok.ensures.hears says
