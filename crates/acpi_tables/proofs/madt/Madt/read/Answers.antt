use Rattle.acpi_tables.proofs.Common.{inr, refl, ◌∙◌, false≢true}
use Rattle.acpi_tables.proofs.Cuts.{read_start, read_more, read_whole, HoldsMadt-walk, BreaksAt-walk, whole_not_refused}
use Rattle.acpi_tables.proofs.madt.Madt.read.Goals as goal

pub loop-at-init : goal.loop-at-init
loop-at-init c = rw c.new-records.ensures.items (read_start _ _ c.if-table-lt-MADT_RECORDS.false)

pub loop-at-preserved : goal.loop-at-preserved
loop-at-preserved c = rw (c.in_ok-push.ensures.items, c.in-Some.ensures.end)
    (read_more _ _ _ _ _ c.loop-at.invariant (c.in-Some.ensures.holds.0 refl) (c.in_ok-to_record.ensures ∙ c.in-Some.ensures.record))

pub returns-in_default-clause-refused : goal.returns-in_default-clause-refused
returns-in_default-clause-refused c =
    inr (BreaksAt-walk _ _ c.loop-at.invariant.walk c.loop-at-test.true (λ holds. false≢true (c.in_default.ensures.holds.1 holds)))

pub returns-clause-holds : goal.returns-clause-holds
returns-clause-holds c = HoldsMadt-walk _ _ c.loop-at.invariant.walk c.loop-at-test.false

pub returns-clause-records : goal.returns-clause-records
returns-clause-records c = read_whole _ _ _ _ c.loop-at.invariant c.loop-at-test.false

pub returns-clause-exact : goal.returns-clause-exact
returns-clause-exact c = whole_not_refused _ (HoldsMadt-walk _ _ c.loop-at.invariant.walk c.loop-at-test.false)
