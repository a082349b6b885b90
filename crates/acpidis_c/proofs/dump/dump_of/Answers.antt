use Rattle.std.proofs.Common.{refl, ◌∙◌}
use Rattle.acpidis_c.proofs.dump.dump_of.Goals as goal

pub returns-clause-dump : goal.returns-clause-dump
returns-clause-dump c = record {
  named = c.in_ok-from_str.ensures.ok ∙ c.in-Ok.ensures.cases.0;
  placed = refl;
  kept = c.in_ok-from_slice.ensures.items ∙ c.kept_of.ensures;
}
