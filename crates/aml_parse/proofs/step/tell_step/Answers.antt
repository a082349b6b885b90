use Rattle.aml_parse.proofs.Common.{◌≡◌, ℕ, ◌⊎◌, refl, sym, ap, subst, ◌∙◌, inl, inr, ok_is, StandsAt, given_err, Err, Result, rules}
use Rattle.aml_code.specs.Lawful.{ReadsStep, next_position}
use Rattle.aml_code.specs.Pieces.{pieces}
use Rattle.aml_code.specs.Tree.{Tree}
use Rattle.aml_names.specs.declared.faults.CodeFault.{CodeFault}
use Rattle.aml_names.specs.declared.faults.CodeFault.TheVariants as codes
use Rattle.aml_parse.proofs.Steps.{step_reads, step_again}
use Rattle.aml_parse.proofs.step.tell_step.Goals as goal

pub returns-clause-told : goal.returns-clause-told
returns-clause-told g c =
    let x = c.in_ok-behind.ensures.told in
    let said = step_reads _ _ _ _ _ _ c.tell_at.ensures.bytes c.requires.inside.0 c.requires.inside.1 c.requires.ends c.requires.deep in
    (x.0, (said.ok _ x.1.0, x.1))

pub returns-clause-one : goal.returns-clause-one
returns-clause-one g c = λ t behind h.
    let x = c.in_ok-behind.ensures.told in
    let same = ok_is _ _ (sym x.1.0 ∙ step_again _ _ _ _ _ _ t behind c.requires.inside.1 h) in
    let is : x.0 ≡ t = ap (λ (y : Tree × ℕ). y.0) same in (
      sym (ap (λ (y : Tree × ℕ). y.1) same),
      (
        x.1.1.0 ∙ ap (next_position c.args.step.now.position) is,
        subst (λ (u : Tree). g.S.Sink.grew c.args.sink.now c.tell_at.new.sink (pieces c.args.step.now.level u)) is x.1.1.1,
      ),
    )

pub returns-in_err-behind-clause-complete : goal.returns-in_err-behind-clause-complete
returns-in_err-behind-clause-complete g c =
    let fails = c.in_err-behind.ensures.fails in
    let refused : Result (Tree × ℕ) CodeFault = Err c.in_err-behind.field-0.0 in
    let known = given_err (λ (x : Tree × ℕ). x) _ refused
    (λ fault. (fault ≡ codes.NoMemory) ⊎ ((t : Tree) (behind : ℕ) → ReadsStep (g.A.Arity.arity c.args.arity.now) c.args.step.now.levels
    c.args.step.now.position c.args.step.now.code.now c.args.step.now.at c.args.step.now.end t behind → ⊥)) fails (inl refl)
    (λ d e. inr (λ t behind h. absurd (cc (step_again _ _ _ _ _ _ t behind c.requires.inside.1 h, e)))) in
    search rules

pub returns-in_err-behind-clause-placed : goal.returns-in_err-behind-clause-placed
returns-in_err-behind-clause-placed g c =
    let fails = c.in_err-behind.ensures.fails in
    let refused : Result (Tree × ℕ) CodeFault = Err c.in_err-behind.field-0.0 in
    let known = given_err (λ (x : Tree × ℕ). x) _ refused (StandsAt (g.A.Arity.arity c.args.arity.now) c.args.step.now.code.now) fails tt
    (λ d e. (step_reads _ _ _ _ _ _ c.tell_at.ensures.bytes c.requires.inside.0 c.requires.inside.1 c.requires.ends c.requires.deep).fault d e) in
    search rules
