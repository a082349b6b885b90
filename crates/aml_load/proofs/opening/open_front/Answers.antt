use Rattle.std.proofs.Common.{Bool, cond, None, sym, ap, ◌∙◌}
use Rattle.aml_load.specs.Opening.{tail_of}
use Rattle.aml_load.proofs.Fronts.{inside_heard}
use Rattle.aml_load.proofs.Openings.{holds, told_block, told_whole}
use Rattle.aml_load.proofs.opening.open_front.Goals as goal

pub returns-in_ok-let_go-clause-told : goal.returns-in_ok-let_go-clause-told
returns-in_ok-let_go-clause-told g c k own =
    let told = c.in_ok-behind.ensures.told in
    let t = told.0 in
    let level = c.args.step.now.level in
    let a = c.args.opening.now in
    let b = c.tell_both.new.second in
    let goes = told.1.1.0 k own in
    let site = c.requires.begun.0 in
    let inside = inside_heard k c.args.ears.now c.tell_both.new.first site level t c.requires.begun.1 goes in
    let none = sym inside ∙ ap (λ (b : Bool). cond b (tail_of t) None) (sym (c.is_block.ensures k) ∙ c.if-not-is_block.true) in (
      t,
      (
        told.1.0,
        (
          holds g.S.Sink.grew a b level t c.requires.none told.1.1.1,
          (
            goes,
            told_whole g.S.Sink.grew a b level t c.requires.none told.1.1.1 g.met.S.Sink.further c.let_go.new.self.sink.now none c.in_ok-let_go.ensures.told,
          ),
        ),
      ),
    )

pub returns-else-not-is_block-clause-told : goal.returns-else-not-is_block-clause-told
returns-else-not-is_block-clause-told g c k own =
    let told = c.in_ok-behind.ensures.told in
    let t = told.0 in
    let level = c.args.step.now.level in
    let a = c.args.opening.now in
    let b = c.tell_both.new.second in
    let goes = told.1.1.0 k own in
    let site = c.requires.begun.0 in
    let inside = inside_heard k c.args.ears.now c.tell_both.new.first site level t c.requires.begun.1 goes in
    let whole = sym inside ∙ ap (λ (b : Bool). cond b (tail_of t) None) (sym (c.is_block.ensures k) ∙ c.if-not-is_block.false) in (
      t,
      (
        told.1.0,
        (
          holds g.S.Sink.grew a b level t c.requires.none told.1.1.1,
          (goes, told_block g.S.Sink.grew a b level t c.requires.none told.1.1.1 whole),
        ),
      ),
    )
