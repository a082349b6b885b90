use Rattle.acpi_folder.proofs.Common.{◌+◌, ◌-◌, ◌∷◌, length, take, drop, sym, ap, ◌∙◌, arith, length-drop, take_all}
use Rattle.acpi_folder.proofs.Common.{lines_of}
use Rattle.acpi_folder.proofs.FirstLines.{lines_of-ended}
use Rattle.acpi_folder.proofs.lines.first_line.Goals as goal

pub returns-in-Some-clause-lines : goal.returns-in-Some-clause-lines
returns-in-Some-clause-lines c =
    let ended = lines_of-ended c.args.text.now c.in-Some.end (sym c.in-Some.ensures) in
    let whole = take_all (length c.args.text.now - (c.in-Some.end + 1)) (drop (c.in-Some.end + 1) c.args.text.now)
    (omega (arith, length-drop (c.in-Some.end + 1) c.args.text.now)) in
    ended ∙ ap (λ rest. take c.in-Some.end c.args.text.now ∷ lines_of rest) (sym whole)
