use Rattle.std.proofs.Common.{◌≡◌, ◌+◌, drop}
use Rattle.aml_names.specs.NameReading.{parents}
use Rattle.aml_names.proofs.reading.parents_of.Given as goal

abbrev pub invariant-loop-byte : goal.invariant-loop-byte
invariant-loop-byte l = record { counted : l.count ≡ l.byte-index; others : l.count + parents (drop l.byte-index l.bytes) ≡ parents l.bytes }
