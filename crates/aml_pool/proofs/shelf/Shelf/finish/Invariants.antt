use Rattle.std.proofs.Common.{◌≡◌, ◌+◌, ◌≤◌, ◌++◌, Some, map, length, vec_capacity, vec_len}
use Rattle.std.specs.Prelude.{reverse}
use Rattle.aml_pool.specs.Counting.{vacant}
use Rattle.aml_pool.proofs.shelf.Shelf.finish.Given as goal

abbrev pub invariant-loop-slot : goal.invariant-loop-slot
invariant-loop-slot g l =
    (l.slots.items ++ map Some (reverse l.room.items) ≡ l.fn.self.slots.items)
    × (length l.slots.items + length l.room.items ≤ vec_capacity l.room)
    × (vacant l.slots.items ≡ 0)

abbrev pub decreases-loop-slot : goal.decreases-loop-slot
decreases-loop-slot g l = vec_len l.slots
