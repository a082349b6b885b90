use Rattle.std.proofs.Common.{◌≡◌, ℕ, Option, Some, refl, sym, ap, ◌∙◌}
use Rattle.aml_code.specs.Opcodes.{Row, row_view}
use Rattle.aml_namespace.specs.Known.{Known}
use Rattle.aml_load.specs.Declaring.{kinds_in}
use Rattle.aml_load.specs.Hearing.{Around, Heard, opening, opened_by, inside, inner, top}
use Rattle.aml_load.specs.HearingViews.{around_view, heard_in, stack_view}
use Rattle.aml_load.specs.declared.ears.Around.{Around as KeptAround}
use Rattle.aml_load.specs.declared.ears.Around.TheVariants as kept
use Rattle.aml_load.specs.declared.sites.Site.{Site}
use Rattle.aml_load.proofs.Steps.{goes_as, on_ok_by}
use Rattle.aml_load.proofs.ears.Ears.catch_opcode.Goals as goal

-- inside what is no list of terms
opened_else : (k : Known) (b : KeptAround) (o : ℕ) (row : Option Row) (x : Heard) → ((s : Site) → b ≡ kept.Terms s → ⊥)
    → ((s : Site) → b ≡ kept.Run s → ⊥)
    → opened_by (around_view k b) o row x ≡ opening (inside (around_view k b) (inner (kinds_in o))) x
opened_else k (kept.Terms s) o row x other none = absurd (other s refl)
opened_else k (kept.Run s) o row x other none = absurd (none s refl)
opened_else k (kept.Head p told) o row x other none = refl
opened_else k (kept.Inner p told) o row x other none = refl
opened_else k kept.Arguments o row x other none = refl
opened_else k kept.Elements o row x other none = refl
opened_else k kept.Units o row x other none = refl
opened_else k kept.Nowhere o row x other none = refl

pub returns-in_default : goal.returns-in_default
returns-in_default c k own =
    let old = c.args.self.now in
    let o = c.args.row.now.opcode in
    let row = Some (row_view c.args.row.now) in
    let a = around_view k c.inside.result in
    let is : top (stack_view k old.around.items) ≡ around_view k c.top-top.result = sym (c.top-top.ensures.top k) in
    on_ok_by c.go_in.result
    (goes_as k old c.go_in.new.self (opening a) (λ x. opened_by (top x.around) o row x) (λ l.
    ap (λ (b : Around). opened_by b o row (heard_in k l old)) is
    ∙ opened_else k c.top-top.result o row (heard_in k l old) c.in_default.not-Terms c.in_default.not-Run
    ∙ ap (λ (b : Around). opening b (heard_in k l old)) (sym (c.inside.ensures.inside k))))
    (c.go_in.ensures k (c.inside.ensures.numbered k tt))
