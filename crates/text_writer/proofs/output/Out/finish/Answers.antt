use Rattle.text_writer.proofs.PrintLaws.{prints_none}
use Rattle.text_writer.proofs.output.Out.finish.Goals as goal

pub returns-then-self-clause-prints : goal.returns-then-self-clause-prints
returns-then-self-clause-prints g c = prints_none g.W.Write.contents _
