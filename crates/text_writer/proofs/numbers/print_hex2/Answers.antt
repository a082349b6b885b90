use Rattle.std.proofs.Common.{rules}
use Rattle.text_writer.specs.Prints.{hex2, hex_digit}
use Rattle.text_writer.proofs.numbers.print_hex2.Goals as goal

pub returns : goal.returns
unfolding hex2 hex_digit
returns g c = search rules
