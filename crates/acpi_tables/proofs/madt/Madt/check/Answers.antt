use Rattle.acpi_tables.proofs.Common.{refl, sym, subst, false≢true}
use Rattle.acpi_tables.proofs.Cuts.{WalksTo, walk_start, walk_more, HoldsMadt-walk, BreaksAt-walk}
use Rattle.acpi_tables.proofs.madt.Madt.check.Goals as goal

pub loop-at-init : goal.loop-at-init
loop-at-init c = walk_start c.args.table.now c.if-table-lt-MADT_RECORDS.false

pub loop-at-preserved : goal.loop-at-preserved
loop-at-preserved c = subst (WalksTo c.args.table.now) (sym c.in-Some.ensures.end) (walk_more _ _ c.loop-at.invariant (c.in-Some.ensures.holds.0 refl))

pub returns-in_default-clause-refused : goal.returns-in_default-clause-refused
returns-in_default-clause-refused c =
    BreaksAt-walk _ _ c.loop-at.invariant c.loop-at-test.true (λ holds. false≢true (c.in_default.ensures.holds.1 holds))

pub returns-clause-holds : goal.returns-clause-holds
returns-clause-holds c = HoldsMadt-walk _ _ c.loop-at.invariant c.loop-at-test.false
