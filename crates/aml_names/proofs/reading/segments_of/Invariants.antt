use Rattle.std.proofs.Common.{◌≡◌, ◌-◌}
use Rattle.aml_names.specs.NameReading.{segments_at}
use Rattle.aml_names.proofs.NameLoops.{with_front}
use Rattle.aml_names.proofs.reading.segments_of.Given as goal

abbrev pub invariant-segments : goal.invariant-segments
invariant-segments l = with_front l.segs (segments_at (l.count - l.counter) l.end l.rest) ≡ segments_at l.count l.end l.bytes
