use Rattle.acpi_folder.proofs.Common.{rules, Some, ◌+◌, ◌≤◌, ◌∙◌, ap, arith, map, vec_len, length, string_bytes}
use Rattle.acpi_folder.proofs.Common.{take_all, lines_of, entry_of, RefusesMap}
use Rattle.acpi_folder.proofs.Turns.{turn, behind, refuses}
use Rattle.acpi_folder.proofs.map.read_lines.Goals as goal

pub returns-in_err-line-clause-refused : goal.returns-in_err-line-clause-refused
returns-in_err-line-clause-refused c =
    let refused : RefusesMap (map string_bytes c.args.names.now) c.args.text.now c.in_err-line.field-0.0 =
    refuses _ _ _ _ _ _ _ _ _ c.loop-rest.invariant c.first_line.ensures.lines c.deref.ensures.value
    (c.in_err-line.ensures.numbered ∙ ap (λ count. Some (count + 1)) c.len.ensures) c.in_err-line.ensures.refused in
    search rules

pub loop-rest-preserved : goal.loop-rest-preserved
loop-rest-preserved c =
    turn _ _ _ _ _ _ _ _ _ _ c.in_ok-line.line c.loop-rest.invariant c.first_line.ensures.lines c.deref.ensures.value c.in_ok-line.ensures.form
    c.in_ok-line.ensures.listed c.in_ok-line.ensures.fresh c.in_ok-line.ensures.entry c.in_ok-push.ensures.len c.in_ok-push.ensures.items

pub returns-clause-map : goal.returns-clause-map
returns-clause-map c =
    let past : length (lines_of c.args.text.now) ≤ vec_len c.loop-rest.lines = behind _ _ _ c.loop-rest.invariant.left (search rules) in
    λ index inside. c.loop-rest.invariant.held index (omega arith)

pub returns-clause-lines : goal.returns-clause-lines
returns-clause-lines c =
    let past : length (lines_of c.args.text.now) ≤ vec_len c.loop-rest.lines = behind _ _ _ c.loop-rest.invariant.left (search rules) in
    c.loop-rest.invariant.said ∙ ap (map entry_of) (take_all _ _ past)
