use Rattle.std.proofs.Common.{◌≡◌, refl, sym, ap, ◌∙◌}
use Rattle.aml_code.specs.Tree.{Field}
use Rattle.aml_code.specs.View.{field_view}
use Rattle.aml_namespace.specs.Known.{Known}
use Rattle.aml_load.specs.Groups.{uses_of}
use Rattle.aml_load.specs.Hearing.{Around, Heard, top, unit_by, with_more}
use Rattle.aml_load.specs.HearingViews.{around_view, heard_in, stack_view}
use Rattle.aml_load.specs.declared.ears.Around.{Around as KeptAround}
use Rattle.aml_load.specs.declared.ears.Around.TheVariants as kept
use Rattle.aml_load.proofs.ears.Ears.catch_unit.Goals as goal

pub returns-in_ok-add_unit_in : goal.returns-in_ok-add_unit_in
returns-in_ok-add_unit_in c k =
    let old = c.args.self.now in
    let u = field_view c.args.field.now in
    let is : top (stack_view k old.around.items) ≡ around_view k kept.Units = sym (c.top.ensures.top k) ∙ ap (around_view k) c.in-Units.is in
    record {
      heard = λ l. sym (ap (λ (b : Around). unit_by b u (heard_in k l old)) is ∙ (λ i. record {
        listed = with_more l (uses_of k old.uses.items);
        term = sym (c.in_ok-add_unit_in.ensures.head k) i;
        around = stack_view k old.around.items;
      }));
      numbered = λ own. record { head = c.in_ok-add_unit_in.ensures.numbered k own.head; around = own.around; uses = own.uses };
    }

-- what is told elsewhere is no unit of a term
unit_else : (k : Known) (b : KeptAround) (u : Field) (x : Heard) → (b ≡ kept.Units → ⊥) → unit_by (around_view k b) u x ≡ x
unit_else k (kept.Terms s) u x other = refl
unit_else k (kept.Run s) u x other = refl
unit_else k (kept.Head p told) u x other = refl
unit_else k (kept.Inner p told) u x other = refl
unit_else k kept.Arguments u x other = refl
unit_else k kept.Elements u x other = refl
unit_else k kept.Units u x other = absurd (other refl)
unit_else k kept.Nowhere u x other = refl

pub returns-in_default : goal.returns-in_default
returns-in_default c k =
    let old = c.args.self.now in
    let u = field_view c.args.field.now in
    record {
      heard = λ l. sym (ap (λ (b : Around). unit_by b u (heard_in k l old)) (sym (c.top.ensures.top k))
          ∙ unit_else k c.top.result u (heard_in k l old) c.in_default.not-Units);
      numbered = λ own. own;
    }
