use Rattle.std.proofs.Common.{Ok, true, sym, ◌∙◌}
use Rattle.aml_code.specs.Pieces.{piece_view}
use Rattle.aml_load.specs.Hearing.{catch, hear}
use Rattle.aml_load.proofs.Steps.{heard_as, said_on}
use Rattle.aml_load.proofs.hearer.Hearer.catch.Goals as goal

pub returns-in-Ok : goal.returns-in-Ok
returns-in-Ok c =
    let old = c.args.self.now.hearing in
    let p = piece_view c.args.piece.now in
    record {
      grew = λ r says.
          said_on old c.catch.new.self c.args.self.now.fault p r (sym c.is_some.ensures ∙ c.if-is_some.false)
          (heard_as old c.catch.new.self (λ x. Ok (catch p x)) (hear true p) c.requires.quiet c.in-Ok.ensures) says;
    }
