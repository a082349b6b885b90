use Rattle.std.proofs.Common.{◌≡◌, ◌++◌, ◌+◌, take, [], ◌∷◌, subst, sym, ap, ◌∙◌}
use Rattle.std.proofs.lemmas.List.{take_more}
use Rattle.aml_set.specs.Methods.{method_in, methods_in}
use Rattle.aml_set.proofs.MethodLaws.{one_method}
use Rattle.acpidis_c.specs.Contents.{method_text, method_value}
use Rattle.acpidis_c.proofs.Listing.{first_more, AreFirst}
use Rattle.acpidis_c.proofs.values.methods_of.Goals as goal

pub loop-method-preserved : goal.loop-method-preserved
loop-method-preserved c =
    let k = c.args.space.now in
    let xs = c.args.methods.now in
    let n = c.loop-method.method-index in
    let x = c.method-item.result in
    let next : methods_in k (take (n + 1) xs) ≡ methods_in k (take n xs) ++ method_in k x ∷ [] =
    ap (methods_in k) (take_more xs n x c.loop-method-test.true ∙ ap (λ y. take n xs ++ y ∷ []) (sym c.method-item.is))
    ∙ one_method k (take n xs) x in
    subst (λ l. AreFirst method_text method_value l c.push.new.self.items c.method_value.new.texts.items) (sym next)
    (first_more method_text method_value (methods_in k (take n xs)) (method_in k x) _ _ _ _ _ c.loop-method.invariant
    c.in_ok-method_value.ensures.value c.in_ok-push.ensures.items c.in_ok-method_value.ensures.put)
