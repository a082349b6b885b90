use Rattle.std.proofs.Common.{◌≡◌, ℕ, refl, sym, ap, ◌∙◌}
use Rattle.aml_names.specs.declared.names.Name.{Name}
use Rattle.aml_namespace.specs.Known.{Known}
use Rattle.aml_load.specs.Hearing.{Around, Heard, arguments, asked_by, asks, inside, named_by, opening, top}
use Rattle.aml_load.specs.HearingViews.{around_view, heard_in, stack_view}
use Rattle.aml_load.specs.declared.ears.Around.{Around as KeptAround}
use Rattle.aml_load.specs.declared.ears.Around.TheVariants as kept
use Rattle.aml_load.specs.declared.sites.Site.{Site}
use Rattle.aml_load.proofs.Steps.{goes_as, goes_then, on_ok_by}
use Rattle.aml_load.proofs.ears.Ears.catch_name.Goals as goal

-- inside what is no term whose code may run
named_else : (k : Known) (b : KeptAround) (n : Name) (count : ℕ) (x : Heard) → ((s : Site) → b ≡ kept.Run s → ⊥)
    → named_by (around_view k b) n count x ≡ opening (inside (around_view k b) arguments) (asked_by x.term (asks (around_view k b)) n count x)
named_else k (kept.Terms s) n count x other = refl
named_else k (kept.Run s) n count x other = absurd (other s refl)
named_else k (kept.Head p told) n count x other = refl
named_else k (kept.Inner p told) n count x other = refl
named_else k kept.Arguments n count x other = refl
named_else k kept.Elements n count x other = refl
named_else k kept.Units n count x other = refl
named_else k kept.Nowhere n count x other = refl

pub returns-in_ok-ask_in-in_default : goal.returns-in_ok-ask_in-in_default
returns-in_ok-ask_in-in_default c k own =
    let old = c.args.self.now in
    let mid = c.ask_in.new.self in
    let n = c.args.name.now in
    let count = c.args.count in
    let is : top (stack_view k old.around.items) ≡ around_view k c.top-top.result = sym (c.top-top.ensures.top k) in
    let first : Heard → Heard = λ x. asked_by x.term (asks (around_view k c.top-top.result)) n count x in
    let a = around_view k c.inside.result in
    on_ok_by c.go_in.result (λ two.
    goes_as k old c.go_in.new.self (λ x. opening a (first x)) (λ x. named_by (top x.around) n count x) (λ l.
    ap (λ (b : Around). named_by b n count (heard_in k l old)) is
    ∙ named_else k c.top-top.result n count (heard_in k l old) c.in_default.not-Run
    ∙ ap (λ (b : Around). opening b (first (heard_in k l old))) (sym (c.inside.ensures.inside k)))
    (goes_then k old mid c.go_in.new.self first (opening a) (c.in_ok-ask_in-in_default.ensures k) two))
    (c.go_in.ensures k (c.inside.ensures.numbered k tt))
