use Rattle.acpi_folder.proofs.Common.{rules, tests, MatchOption-at_none, MatchOption-at_some}
use Rattle.acpi_folder.proofs.Counts.{unread, turn, none_printed, root_printed, printed}
use Rattle.acpi_folder.proofs.externals.read_path.Goals as goal

pub loop-rest-init : goal.loop-rest-init
loop-rest-init c = unread _ _ c.new-segs.ensures.items

pub loop-rest-preserved : goal.loop-rest-preserved
loop-rest-preserved c =
    turn _ _ _ _ _ c.in-Some.seg c.in-Some.behind.now c.loop-rest.invariant (MatchOption-at_some _ _ _ c.in-Some.is c.in_ok-seg.ensures.segment)
    c.in_ok-push.ensures.items

pub returns-in_default-clause-path : goal.returns-in_default-clause-path
returns-in_default-clause-path c = λ path.
    none_printed _ _ _ _ path c.loop-rest.invariant (search rules) (MatchOption-at_none _ _ c.in_default.is c.in_ok-seg.ensures.segment)

pub returns-then-is_empty-clause-path : goal.returns-then-is_empty-clause-path
returns-then-is_empty-clause-path c = λ path. root_printed _ _ _ _ path c.loop-rest.invariant (search rules) (search rules)

pub returns-clause-path : goal.returns-clause-path
returns-clause-path c = rw c.from_segs.ensures (printed _ _ _ _ c.loop-rest.invariant (search rules) (search (rules, tests)))
