use Rattle.text_writer.proofs.PrintLaws.{prints_then}
unfoldable use Rattle.acpidis.specs.Checks.{check_line}
unfoldable use Rattle.text_writer.specs.Prints.{word}
use Rattle.acpidis.proofs.check_lines.print_check.Goals as goal

pub returns : goal.returns
unfolding word check_line
returns g c = prints_then _ _ _ _ _ _ (prints_then _ _ _ _ _ _ c.print_check_head.ensures c.put_decimal.ensures) c.print_same.ensures
