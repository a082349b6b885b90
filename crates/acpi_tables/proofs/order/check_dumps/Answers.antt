use Rattle.acpi_tables.proofs.Common.{subst, sym, ◌∙◌, below_more}
use Rattle.acpi_tables.specs.Dumps.{HoldsDump}
use Rattle.acpi_tables.proofs.Places.{bytes_of-inside}
use Rattle.acpi_tables.proofs.order.check_dumps.Goals as goal

pub loop-index-preserved : goal.loop-index-preserved
loop-index-preserved c =
    let there = bytes_of-inside c.args.dumps.now c.loop-index.index c.index-dumps-index.result c.loop-index-test.true c.index-dumps-index.is in
    below_more _ _ c.loop-index.invariant (subst (HoldsDump c.args.any_sum) (c.deref.ensures.value ∙ sym there) c.in_default.ensures.holds)
