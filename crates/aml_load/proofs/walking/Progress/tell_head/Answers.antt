use Rattle.std.proofs.Common.{ℕ, Result, sym, subst}
use Rattle.std.specs.Prelude.{IfOk, IfErr}
use Rattle.aml_code.specs.Tree.{Tree}
use Rattle.aml_load.specs.Declaring.{◌>>=◌}
use Rattle.aml_load.specs.Front.{IsHeard}
use Rattle.aml_load.specs.Run.{FailsEntering, Fronts}
use Rattle.aml_load.specs.Runner.{front_at}
use Rattle.aml_load.specs.Running.{entered_at}
use Rattle.aml_load.specs.Tables.{Fails}
use Rattle.aml_load.specs.Walking.{at_site}
use Rattle.aml_load.specs.declared.faults.LoadFault.{LoadFault}
use Rattle.aml_load.specs.declared.walking.Progress.{Progress}
use Rattle.aml_load.proofs.Fronts.{heard_front}
use Rattle.aml_load.proofs.Steps.{if_err_by, if_ok_by}
use Rattle.aml_load.proofs.walking.Progress.tell_head.Goals as goal

pub returns-clause-told : goal.returns-clause-told
returns-clause-told g c =
    let old = c.args.self.now in
    let site = c.args.site.now in
    let told = c.in_ok-opened.ensures.told in
    let opened = c.in_ok-opened.opened in
    let made = c.in_ok-ears.ensures in
    let heard = heard_front old.space c.in_ok-ears.ears c.read_front.new.ears site c.args.rest.level told.0 (made.head, (made.around, made.uses)) told.1.1.0
    opened c.requires.runs told.1.0.tail in
    let comes = subst (λ (p : Progress). (t : Tree) → IsHeard p.space site c.read_front.new.ears opened t → IfOk c.enter_front.result (Fronts p c.enter_front.new.self site opened t))
    c.in_ok-opened.ensures.same c.enter_front.ensures.comes in
    if_ok_by c.enter_front.result (λ x fronts. (told.0, (told.1.1.1, (opened, (told.1.0, fronts))))) (comes told.0 heard)

pub returns-clause-fails : goal.returns-clause-fails
returns-clause-fails g c =
    let old = c.args.self.now in
    let site = c.args.site.now in
    let told = c.in_ok-opened.ensures.told in
    let opened = c.in_ok-opened.opened in
    let made = c.in_ok-ears.ensures in
    let heard = heard_front old.space c.in_ok-ears.ears c.read_front.new.ears site c.args.rest.level told.0 (made.head, (made.around, made.uses)) told.1.1.0
    opened c.requires.runs told.1.0.tail in
    let fails = subst (λ (p : Progress). (t : Tree) → IsHeard p.space site c.read_front.new.ears opened t → IfErr c.enter_front.result (FailsEntering p site t))
    c.in_ok-opened.ensures.same c.enter_front.ensures.fails in
    if_err_by c.enter_front.result (λ e entering l h.
    subst (λ (r : Result (Tree × ℕ) LoadFault). Fails e (r >>= λ x. entered_at (front_at (at_site old.space site) l) x.0)) (sym (told.1.0.reads l h)) (entering l h))
    (fails told.0 heard)
