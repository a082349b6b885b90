use Rattle.std.proofs.Common.{ap, option_map, ◌∙◌, subst}
use Rattle.aml_code.specs.View.{node_view}
use Rattle.aml_load.specs.Hearing.{head_enters}
use Rattle.aml_load.specs.HearingViews.{head_view}
use Rattle.aml_load.specs.Runner.{front_at, Came}
use Rattle.aml_load.specs.Walking.{at_site}
use Rattle.aml_load.proofs.Fronts.{views}
use Rattle.aml_load.proofs.walking.Progress.enter_term.Goals as goal

pub returns-clause-enters : goal.returns-clause-enters
returns-clause-enters c l h =
    let k = c.args.self.now.space in
    let site = at_site k c.args.site.now in
    let x = node_view c.args.term.now in
    let head = views k c.as_ref.result ∙ ap (option_map (head_view k)) c.as_ref.ensures.value ∙ c.in_ok-head.ensures.head k in
    subst (Came c.enter_heard.new.self c.args.site.now c.enter_heard.result)
    (λ i. head_enters (head i) (front_at site l) (c.span_of-span.ensures i)) (c.enter_heard.ensures.comes l h)
