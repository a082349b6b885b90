use Rattle.acpidis.proofs.Common.{◌≡◌, ℕ, Some, IfSome, length, slice_get, body_in_set, Reading, ReadsIn}
use Rattle.acpidis.proofs.bodies.keep_bodies_alone.Given as goal

abbrev pub invariant-loop-number : goal.invariant-loop-number
invariant-loop-number g l = record {
  many : length l.kept.items ≡ l.number;
  each : (n : ℕ) (d : _) → slice_get l.kept.items n ≡ Some d
      → (b : Reading) × IfSome (slice_get l.set.methods.items n) (λ m. ReadsIn l.unknown_zero l.set m b)
      × g.K.Keep.keeps l.keep n (body_in_set l.set n) b d;
}
