use Rattle.acpi_folder.proofs.Common.{arith}
use Rattle.acpi_folder.proofs.Counts.{begins_all, begins_none_all}
use Rattle.acpi_folder.proofs.externals.read_seg.Goals as goal

pub returns-in-Ok-clause-segment : goal.returns-in-Ok-clause-segment
returns-in-Ok-clause-segment c =
    begins_all c.args.lead c.args.bytes.now c.in-Ok.read.0 c.in-Ok.read.1.now c.in-len1-up.len_at_least c.if-first-lead.true
    (λ i. omega (arith, c.type_inv.bytes i))
    c.in-Ok.ensures

pub returns-in_default-fault : goal.returns-in_default-fault
returns-in_default-fault c = record {
  segment = begins_none_all c.args.lead c.args.bytes.now c.in-Err.fault c.in-len1-up.len_at_least c.if-first-lead.true c.in-Err.ensures
      c.in_default-fault.not-NoMemory;
  memory = tt;
}
