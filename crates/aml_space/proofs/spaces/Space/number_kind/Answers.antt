use Rattle.std.proofs.Common.{IfSome, Some, ◌≡◌, length, sym, subst, ap, ◌∙◌}
use Rattle.std.specs.Prelude.{slice_get}
use Rattle.std.specs.Option.{option_copied}
use Rattle.aml_namespace.specs.Kinds.{target_of, kind_in, IsAmong}
use Rattle.aml_namespace.proofs.Aimed.{kind_numbered}
use Rattle.aml_space.proofs.spaces.Space.number_kind.Goals as goal
use Rattle.aml_space.proofs.spaces.Space.number_kind.Goals.{in-None, in-Some+in_ok-target-in-Some, After-aimed_at}

shown : (c : After-aimed_at) → (kind_in c.match-target.self.paths c.aimed_at.result ≡ c.args.kind.now)
    × IsAmong (length c.match-target.self.paths) c.aimed_at.result
shown c =
    let paths = c.match-target.self.paths in
    let led : IfSome (target_of c.args.kind.now) (λ p. slice_get paths c.match-target.target ≡ Some p) = elim c.match-target.branch [
      | in-None w ↦ subst (λ o. IfSome o (λ p. slice_get paths c.match-target.target ≡ Some p)) (ap option_copied (sym w.in-None.is) ∙ c.target.ensures) tt
      | in-Some+in_ok-target-in-Some w ↦ subst (λ o. IfSome o (λ p. slice_get paths c.match-target.target ≡ Some p))
          (ap option_copied (sym w.in-Some.is) ∙ c.target.ensures)
          ((λ i. slice_get (w.self-is i).paths (w.target-is i)) ∙ w.in_ok-target-in-Some.ensures.ok ∙ ap (λ p. Some p) (w.whole.ensures ∙ w.segs.ensures))
    ] in
    let told = kind_numbered paths c.args.kind.now c.match-target.target led in
    (ap (kind_in paths) c.aimed_at.ensures ∙ told.0, subst (IsAmong (length paths)) (sym c.aimed_at.ensures) told.1)

pub returns-clause-ok : goal.returns-clause-ok
returns-clause-ok c = (shown c).0

pub returns-clause-among : goal.returns-clause-among
returns-clause-among c = (shown c).1
