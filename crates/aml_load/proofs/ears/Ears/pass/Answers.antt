use Rattle.std.proofs.Common.{◌≡◌, ◌∷◌, [], ◌++◌, List, refl, sym, ap, subst, ◌∙◌}
use Rattle.std.specs.List.{AllByRecursion}
use Rattle.std.specs.Option.{option_map}
use Rattle.aml_load.specs.Groups.{uses_of}
use Rattle.aml_load.specs.Hearing.{Around, all_passed, noted_by, top, with_more}
use Rattle.aml_load.specs.HearingViews.{head_view, noted_view, stack_view, IsNumbered}
use Rattle.aml_load.specs.declared.ears.Around.{Around as KeptAround}
use Rattle.aml_load.proofs.Stacks.{one_on, all_on, all_off, last_changed}
use Rattle.aml_load.proofs.ears.Ears.pass.Goals as goal

pub returns : goal.returns
returns c k =
    let around = c.args.self.now.around in
    let items = around.items in
    let one = c.in-Some.top.now in
    let was = last_changed items around.len one c.passed.result around.ok.0 (c.in-Some.ensures.variant.0 refl) in
    let rest = was.0 in
    let before : items ≡ rest ++ one ∷ [] = was.1.0 ∙ ap (λ (a : KeptAround). rest ++ a ∷ []) (sym c.in-Some.ensures.value) in
    let off = ap (stack_view k) before ∙ one_on k rest one in
    let on = ap (stack_view k) was.1.1 ∙ one_on k rest c.passed.result in
    let head = option_map (head_view k) c.args.self.now.head in
    record {
      heard = λ l. λ i. record {
        listed = with_more l (uses_of k c.args.self.now.uses.items);
        term = (c.in_ok-note_in.ensures.head k ∙ ap (λ (o : List Around). noted_by (top o) (noted_view c.args.noted) head) (sym off)) i;
        around = (on ∙ ap (λ (a : Around). a ∷ stack_view k rest) (c.passed.ensures.passed k) ∙ ap all_passed (sym off)) i;
      };
      numbered = λ old.
          let parts = all_off k rest one (subst (AllByRecursion (IsNumbered k)) before old.around) in
          record {
            head = c.in_ok-note_in.ensures.numbered k old.head;
            around = subst (AllByRecursion (IsNumbered k)) (sym was.1.1)
                (all_on k rest c.passed.result parts.0 (c.passed.ensures.numbered k parts.1));
            uses = old.uses;
          };
    }
