use Rattle.std.proofs.Common.{◌≡◌, ℕ, map, length, vec_len}
use Rattle.std.specs.Prelude.{All}
use Rattle.aml_pool.specs.Counting.{times, free, AllGive}
use Rattle.aml_pool.proofs.results.filed.Given as goal

abbrev pub invariant-loop-number : goal.invariant-loop-number
invariant-loop-number g l =
    ((x : ℕ) → times x (map (λ p. p.0) l.done.items) ≡ free x l.shelf.slots.items)
    × All (λ p. g.W.Work.gives l.fn.work p.0 p.1) l.done.items
    × AllGive (g.W.Work.gives l.fn.work) l.shelf.slots.items
    × (length l.shelf.slots.items ≡ length l.fn.shelf.slots.items)

abbrev pub decreases-loop-number : goal.decreases-loop-number
decreases-loop-number g l = vec_len l.done
