use Rattle.std.proofs.Common.{◌≡◌, ◌++◌, ◌∷◌, [], None, Some, ap, ◌∙◌, sym, arith, map, length, length-append}
use Rattle.std.proofs.Common.{append_assoc}
use Rattle.std.specs.Prelude.{reverse}
use Rattle.std.proofs.lemmas.List.{reverse-append}
use Rattle.aml_pool.specs.Counting.{vacant}
use Rattle.aml_pool.proofs.Places.{vacant-append}
use Rattle.aml_pool.proofs.shelf.Shelf.finish.Goals as goal

pub unreachable-requires : goal.unreachable-requires
unreachable-requires g c =
    let is : c.loop-slot.slots.items ≡ c.pop.new.self.items ++ None ∷ [] = c.in-Some.ensures.items
    ∙ ap (λ o. c.pop.new.self.items ++ o ∷ []) c.in_default-slot.is in
    let none : vacant (c.pop.new.self.items ++ None ∷ []) ≡ 0 = sym (ap vacant is) ∙ c.loop-slot.invariant.2 in
    let more = vacant-append c.pop.new.self.items (None ∷ []) in
    absurd (omega arith)

pub loop-slot-preserved : goal.loop-slot-preserved
loop-slot-preserved g c =
    let rest = c.pop.new.self.items in let room = c.loop-slot.room.items in let value = c.in-Some-slot.value in
    let slots : c.loop-slot.slots.items ≡ rest ++ Some value ∷ [] = c.in-Some.ensures.items ∙ ap (λ o. rest ++ o ∷ []) c.in-Some-slot.is in
    let pushed : c.push.new.self.items ≡ room ++ value ∷ [] = c.in-Ok.ensures.items in
    let turned : reverse (room ++ value ∷ []) ≡ value ∷ reverse room = reverse-append room (value ∷ []) in
    let more = vacant-append rest (Some value ∷ []) in
    let none : vacant (rest ++ Some value ∷ []) ≡ 0 = sym (ap vacant slots) ∙ c.loop-slot.invariant.2 in
    let later = map (λ x. Some x) (reverse room) in
    let turned_now : reverse c.push.new.self.items ≡ value ∷ reverse room = ap reverse pushed ∙ turned in
    let seen : rest ++ map (λ x. Some x) (reverse c.push.new.self.items) ≡ rest ++ (Some value ∷ later) = ap (λ l. rest ++ map (λ x. Some x) l) turned_now in
    let split : rest ++ (Some value ∷ later) ≡ c.loop-slot.slots.items ++ later = sym (append_assoc rest (Some value ∷ []) later)
    ∙ ap (λ l. l ++ later) (sym slots) in (
      seen ∙ (split ∙ c.loop-slot.invariant.0),
      (let fit = c.loop-slot.invariant.1 in let kept = c.push.ensures.capacity in let a = ap length slots in let b = ap length pushed in
          omega (arith, length-append rest (Some value ∷ []), length-append room (value ∷ []))),
      omega arith,
    )
