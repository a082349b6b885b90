use Rattle.std.proofs.Common.{rules, ◌≡◌, ◌-◌, Some, set, length-set, refl, ap, ◌∙◌, arith}
use Rattle.std.specs.Prelude.{slice_get}
use Rattle.std.proofs.lemmas.Option.{slice_get_read}
use Rattle.aml_pool.specs.Counting.{vacant}
use Rattle.aml_pool.proofs.Places.{place-filed}
use Rattle.aml_pool.proofs.shelf.Shelf.put.Goals as goal

pub returns-in-Some-Some-clause-err : goal.returns-in-Some-Some-clause-err
returns-in-Some-Some-clause-err g c =
    let slots = c.args.self.now.slots.items in
    let at : slice_get slots c.args.number ≡ Some c.in-Some-Some.field-0.now = slice_get_read slots _ _ _ refl (search rules) (search rules) in
    ((refl, _, at ∙ ap (λ o. Some o) c.in-Some-Some.field-0-is), refl)

pub overflow_sub-self : goal.overflow_sub-self
overflow_sub-self g c =
    let filed = place-filed c.args.self.now.slots.items c.args.number _ c.args.value (search rules) (search rules) c.in-Some-None.field-0-is in
    let is : c.args.self.now.left ≡ vacant c.args.self.now.slots.items = c.args.self.now.counted in omega arith

pub invariant_of-self : goal.invariant_of-self
invariant_of-self g c =
    let slots = c.args.self.now.slots.items in
    let filed = place-filed slots c.args.number _ c.args.value (search rules) (search rules) c.in-Some-None.field-0-is in
    let is : c.args.self.now.left ≡ vacant slots = c.args.self.now.counted in
    record {
      counted = let e : c.args.self.now.left - 1 ≡ vacant (set slots c.args.number (Some c.args.value)) = omega arith in e;
      roomy = (c.args.self.now.roomy.0, let fit = c.args.self.now.roomy.1 in let same = length-set slots c.args.number (Some c.args.value) in omega arith);
    }

pub returns-clause-ok : goal.returns-clause-ok
returns-clause-ok g c =
    ((place-filed c.args.self.now.slots.items c.args.number _ c.args.value (search rules) (search rules) c.in-Some-None.field-0-is).0, refl)
