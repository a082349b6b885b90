use Rattle.acpidis.proofs.Common.{◌≡◌, length, map, take, body_of, reading_of, AreKept, IsKept, IsSame}
use Rattle.acpidis.proofs.checking.try_bodies.Given as goal

abbrev pub invariant-loop-number : goal.invariant-loop-number
invariant-loop-number l = record {
  many : length l.tried.items ≡ l.number;
  kept : AreKept (λ n. IsKept (IsSame (body_of l.listing.loaded n))) (map reading_of (take l.number l.listing.bodies.items)) l.tried.items;
}
