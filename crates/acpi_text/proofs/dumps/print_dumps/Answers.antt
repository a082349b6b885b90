use Rattle.acpi_text.proofs.Common.{true, subst, HoldsDump, bytes_of-inside}
use Rattle.acpi_text.proofs.dumps.print_dumps.Goals as goal

pub print_dump-requires : goal.print_dump-requires
print_dump-requires g c =
    let there = bytes_of-inside c.args.dumps.now c.loop-dump.dump-index c.dump-item.result c.loop-dump-test.true c.dump-item.is in
    record { taken = subst (HoldsDump true) there (c.requires.taken c.loop-dump.dump-index c.loop-dump-test.true) }
