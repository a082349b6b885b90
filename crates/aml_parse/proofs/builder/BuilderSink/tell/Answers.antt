use Rattle.aml_parse.proofs.Common.{refl, sym, subst}
use Rattle.aml_parse.specs.Built.{StandsAs, state_of}
use Rattle.aml_parse.proofs.builder.BuilderSink.tell.Goals as goal

pub returns-then-is_silent : goal.returns-then-is_silent
returns-then-is_silent c =
    subst (StandsAs c.args.self.now) (sym (c.is_silent.ensures c.if-is_silent.true (state_of c.args.self.now))) refl
