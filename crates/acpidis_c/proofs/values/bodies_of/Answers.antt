use Rattle.std.proofs.Common.{◌≡◌, ◌++◌, ◌+◌, take, [], ◌∷◌, subst, sym, ap, ◌∙◌}
use Rattle.std.proofs.lemmas.List.{take_more}
use Rattle.acpidis_c.specs.Contents.{kept_text, kept_value}
use Rattle.acpidis_c.proofs.Listing.{first_more, AreFirst}
use Rattle.acpidis_c.proofs.values.bodies_of.Goals as goal

pub loop-body-preserved : goal.loop-body-preserved
loop-body-preserved c =
    let xs = c.args.bodies.now in
    let n = c.loop-body.body-index in
    let x = c.body-item.result in
    let next : take (n + 1) xs ≡ take n xs ++ x ∷ [] = take_more xs n x c.loop-body-test.true
    ∙ ap (λ y. take n xs ++ y ∷ []) (sym c.body-item.is) in
    subst (λ l. AreFirst kept_text kept_value l c.push.new.self.items c.body_value.new.texts.items) (sym next)
    (first_more kept_text kept_value (take n xs) x _ _ _ _ _ c.loop-body.invariant c.in_ok-body_value.ensures.value
    c.in_ok-push.ensures.items c.in_ok-body_value.ensures.put)
