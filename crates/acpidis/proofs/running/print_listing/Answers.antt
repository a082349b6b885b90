use Rattle.acpidis.proofs.Common.{refl, err_from_is_err_and}
use Rattle.acpidis.proofs.RunLaws.{kept_output}
use Rattle.acpidis.proofs.running.print_listing.Goals as goal

pub returns-in_err-write_printed : goal.returns-in_err-write_printed
returns-in_err-write_printed g c =
    let output = kept_output c.args.tables c.args.options.now c.requires.set _ _ _ c.requires.levels refl c.requires.kept in
    let gave = err_from_is_err_and c.from_residual-in_err-write_printed.result c.from_residual-in_err-write_printed.ensures.1 in
    rw (gave.1, gave.2) (record { status = _; text = _; wrote = _; lists = output.lists; cut = c.in_err-write_printed.ensures })

pub returns : goal.returns
returns g c =
    let output = kept_output c.args.tables c.args.options.now c.requires.set _ _ _ c.requires.levels refl c.requires.kept in
    (_, rw c.status_of_bodies.ensures output, c.in_ok-write_printed.ensures)
