use Rattle.asl_text.proofs.PieceLaws.{body_text}
use Rattle.asl_text.proofs.told.pieces_are_lines.Goals as goal

pub returns : goal.returns
returns c arity method code level ts h = body_text arity method code level ts h
