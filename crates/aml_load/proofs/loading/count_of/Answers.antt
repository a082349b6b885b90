use Rattle.std.specs.Prelude.{IfOk}
use Rattle.std.proofs.Common.{◌≡◌, subst}
use Rattle.aml_namespace.specs.Runs.{agreed_arity}
use Rattle.aml_namespace.proofs.Stands.{same_outlook}
use Rattle.aml_load.proofs.loading.count_of.Goals as goal

pub returns : goal.returns
returns c = λ l place unknown_zero stands scope unknown.
    subst (λ n. IfOk c.count-2.result (λ count. count ≡ n))
    (λ i. agreed_arity (same_outlook c.args.names.now.known l.entries stands i) (unknown i) (scope i) (c.new.ensures i)
    c.args.asked.now.name)
    c.count-2.ensures
