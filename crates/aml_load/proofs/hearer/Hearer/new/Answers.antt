use Rattle.std.proofs.Common.{[], ◌∷◌, List, Ok, option_map, sym, ap, ◌∙◌}
use Rattle.aml_load.specs.Groups.{uses_of}
use Rattle.aml_load.specs.Hearing.{terms, with_more}
use Rattle.aml_load.specs.HearingViews.{head_view, stack_view}
use Rattle.aml_load.specs.declared.groups.Group.{Group}
use Rattle.aml_load.proofs.HearingLaws.{more_none}
use Rattle.aml_load.proofs.hearer.Hearer.new.Goals as goal

pub returns : goal.returns
returns c l h =
    let k = c.args.progress.space in
    let made = c.in_ok-ears.ensures in
    let listed = ap (λ (gs : List Group). with_more l (uses_of k gs)) made.uses ∙ more_none l in
    let around = ap (stack_view k) made.around ∙ ap (λ w. terms w ∷ []) c.root_site-root.ensures.site in (
      l,
      h,
      sym (ap Ok (λ i. record { listed = listed i; term = option_map (head_view k) (made.head i); around = around i })),
    )
