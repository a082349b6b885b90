use Rattle.acpi_folder.proofs.Common.{rules, ◌+◌, ◌≤◌, ap, inr, length, vec_len, ℕ, take_all, MatchOption-at_none}
use Rattle.acpi_folder.proofs.Common.{MatchOption-at_some, lines_of}
use Rattle.acpi_folder.specs.declared.externals.ExternalsFault.TheVariants.{BadLine}
use Rattle.acpi_folder.specs.Externals.{RefusesExternals}
use Rattle.acpi_folder.proofs.Pairs.{turn, refuses, not_giving}
use Rattle.acpi_folder.proofs.Turns.{behind}
use Rattle.acpi_folder.proofs.externals.parse_externals.Goals as goal

refused : (c : goal.After-drop-given-in_default) → RefusesExternals c.args.text.now (BadLine (c.len.result + 1))
refused c =
    refuses _ _ _ _ _ _ _ c.loop-rest.invariant c.first_line.ensures.lines (MatchOption-at_none _ _ c.in_default.is c.in_ok-pair.ensures.given)
    (ap (λ (n : ℕ). n + 1) c.len.ensures)

pub returns-in_default-clause-refused : goal.returns-in_default-clause-refused
returns-in_default-clause-refused c = inr (refused c)

pub returns-in_default-clause-none : goal.returns-in_default-clause-none
returns-in_default-clause-none c = inr (not_giving _ _ (refused c))

pub loop-rest-preserved : goal.loop-rest-preserved
loop-rest-preserved c =
    turn _ _ _ _ _ _ _ _ c.in-Some.pair c.loop-rest.invariant c.first_line.ensures.lines
    (MatchOption-at_some _ _ _ c.in-Some.is c.in_ok-pair.ensures.given) c.in_ok-push.ensures.len c.in_ok-push.ensures.items

pub returns-clause-lines : goal.returns-clause-lines
returns-clause-lines c =
    let past : length (lines_of c.args.text.now) ≤ vec_len c.loop-rest.given = behind _ _ _ c.loop-rest.invariant.left (search rules) in
    rw (take_all _ _ past) at c.loop-rest.invariant.all
