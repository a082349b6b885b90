use Rattle.std.proofs.Common.{◌≡◌, sym, ap, ◌∙◌, arith, replicate, None, length}
use Rattle.aml_pool.specs.Counting.{vacant}
use Rattle.aml_pool.proofs.Places.{vacant-replicate}
use Rattle.aml_pool.proofs.shelf.Shelf.new.Goals as goal
use lib.ListN.{length-replicate}

pub invariant_of-result : goal.invariant_of-result
invariant_of-result g c =
    let all : c.loop.counter ≡ c.args.count = omega arith in
    let is = c.loop.invariant ∙ ap (λ n. replicate n None) all in
    let long : length c.loop.slots.items ≡ c.args.count = ap length is ∙ length-replicate c.args.count None in
    let room = c.in_ok-room.ensures.capacity in
    record {
      counted = sym (ap vacant is ∙ vacant-replicate _ c.args.count);
      roomy = (c.in_ok-room.ensures.items, omega arith);
    }
