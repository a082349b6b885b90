use Rattle.std.proofs.Common.{ℕ, ◌≡◌, ◌<◌, List, length, Some, Result, Ok, Err, IfOk, refl, subst, ap}
use Rattle.std.specs.Prelude.{slice_get}
use Rattle.std.proofs.lemmas.Option.{slice_get_within}
use Rattle.aml_names.specs.declared.segments.Seg.{Seg}
use Rattle.aml_namespace.specs.Known.{StandsAt}
use Rattle.aml_namespace.specs.Namespace.{kind_at, target_by}
use Rattle.aml_namespace.proofs.Stands.{same_namespace}
use Rattle.aml_space.specs.Below.{path_below}
use Rattle.aml_load.proofs.Holding.{grown_held}
use Rattle.aml_load.proofs.walking.Progress.target_of.Goals as goal

pub returns-clause-holds : goal.returns-clause-holds
returns-clause-holds c l h = grown_held c.args.self.now _ l c.number_target.ensures.grows refl refl h

pub returns-clause-target : goal.returns-clause-target
returns-clause-target c l stands =
    let source = path_below c.args.self.now.space.paths c.args.source.now in
    subst (λ p. IfOk c.number_target.result (λ id. StandsAt c.number_target.new.self id p))
    (ap (λ n. target_by (kind_at n source) source) (same_namespace c.args.self.now.space l.entries stands)) c.number_target.ensures.ok

within : {E : Type 0} (r : Result ℕ E) (paths : List (List Seg)) (p : List Seg) → IfOk r (λ id. slice_get paths id ≡ Some p)
    → IfOk r (λ id. id < length paths)
within (Ok id) paths p at = slice_get_within paths id p at
within (Err e) paths p at = tt

pub returns-clause-among : goal.returns-clause-among
returns-clause-among c = within c.number_target.result c.number_target.new.self.paths _ c.number_target.ensures.ok
