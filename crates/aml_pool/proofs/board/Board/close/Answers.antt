use Rattle.std.proofs.Common.{rules, ◌≡◌, ap, sym, ◌∙◌, min}
use Rattle.aml_pool.specs.Counting.{once_below}
use Rattle.aml_pool.proofs.Moves.{closes}
use Rattle.aml_pool.proofs.board.Board.close.Goals as goal

pub returns-clause-each : goal.returns-clause-each
returns-clause-each c =
    let known : c.args.self.table.shared.key ≡ c.args.self.count = c.args.self.known.0 in
    let end = closes _ _ _ _ _ _ c.close_with-closed.ensures.values.2 c.requires.whole c.word-word.ensures in
    let least : min c.word-word.result c.args.self.table.shared.key ≡ c.min.result = grind rules in
    λ x. end.0 x ∙ ap (once_below x) least

pub returns-clause-ended : goal.returns-clause-ended
returns-clause-ended c =
    let known : c.args.self.table.shared.key ≡ c.args.self.count = c.args.self.known.0 in
    let end = closes _ _ _ _ _ _ c.close_with-closed.ensures.values.2 c.requires.whole c.word-word.ensures in
    let least : min c.word-word.result c.args.self.table.shared.key ≡ c.min.result = grind rules in
    λ ended. sym least ∙ (end.1 ended ∙ known)
