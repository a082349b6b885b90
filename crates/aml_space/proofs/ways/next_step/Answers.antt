use Rattle.std.proofs.Common.{ℕ, inl, inr, ap, ◌∙◌, arith}
use Rattle.aml_names.specs.declared.segments.Seg.{Seg}
use Rattle.aml_space.proofs.Stepping.{steps_more}
use Rattle.aml_space.proofs.ways.next_step.Goals as goal

pub returns-then-saturating_sub : goal.returns-then-saturating_sub
returns-then-saturating_sub c = steps_more c.args.nodes.now c.requires.index c.args.steps.now c.requires.steps _ c.link-parent.result.0
    c.step_from-middle.result (omega (arith, c.if-at-eq0.false)) c.requires.more (ap (λ (l : ℕ × Seg). l.0) c.link-parent.ensures)
    c.step_from-middle.ensures (inr (c.new.ensures ∙ c.step_from-far.ensures))

pub returns-else-saturating_sub : goal.returns-else-saturating_sub
returns-else-saturating_sub c = steps_more c.args.nodes.now c.requires.index c.args.steps.now c.requires.steps _ c.link-parent.result.0
    c.step_from-middle.result (omega (arith, c.if-at-eq0.false)) c.requires.more (ap (λ (l : ℕ × Seg). l.0) c.link-parent.ensures)
    c.step_from-middle.ensures (inl c.new-else-saturating_sub.ensures)
