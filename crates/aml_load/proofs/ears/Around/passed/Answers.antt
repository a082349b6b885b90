use Rattle.std.proofs.Common.{ℕ, drop, sym, ap, ◌∙◌}
use Rattle.aml_load.specs.Hearing.{head, inner, passed}
use Rattle.aml_load.specs.HearingViews.{around_view}
use Rattle.aml_load.specs.Declaring.{kinds_in}
use Rattle.aml_load.proofs.ShortKinds.{kinds_behind}
use Rattle.aml_load.proofs.ears.Around.passed.Goals as goal

pub returns-in-Head-clause-passed : goal.returns-in-Head-clause-passed
returns-in-Head-clause-passed c k =
    ap head (ap (λ (n : ℕ). drop n (kinds_in c.in-Head.opcode)) c.saturating_add.ensures ∙ kinds_behind c.in-Head.opcode c.in-Head.told)
    ∙ sym (ap (λ a. passed (around_view k a)) c.in-Head.is)

pub returns-in-Inner-clause-passed : goal.returns-in-Inner-clause-passed
returns-in-Inner-clause-passed c k =
    ap inner (ap (λ (n : ℕ). drop n (kinds_in c.in-Inner.opcode)) c.saturating_add-in-Inner.ensures ∙ kinds_behind c.in-Inner.opcode c.in-Inner.told)
    ∙ sym (ap (λ a. passed (around_view k a)) c.in-Inner.is)
