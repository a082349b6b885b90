use Rattle.std.proofs.Common.{refl, sym, subst}
use Rattle.aml_code.specs.Encoded.{StandsAs, state_of}
use Rattle.aml_code.proofs.encoder.EncoderSink.tell.Goals as goal

pub returns-then-is_silent : goal.returns-then-is_silent
returns-then-is_silent c =
    let e = c.args.self.now in
    (refl, subst (StandsAs e) (sym (c.is_silent.ensures c.if-is_silent.true e.code.now (state_of e))) refl)
