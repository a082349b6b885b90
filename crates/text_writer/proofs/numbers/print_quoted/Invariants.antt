use Rattle.std.proofs.Common.{take, flat_map}
use Rattle.text_writer.specs.Prints.{Prints, quoted_byte}
use Rattle.text_writer.proofs.numbers.print_quoted.Given as goal

abbrev pub invariant-loop-byte : goal.invariant-loop-byte
invariant-loop-byte g l = Prints g.W.Write.contents l.initial.out l.out (flat_map quoted_byte (take l.byte-index l.bytes))
