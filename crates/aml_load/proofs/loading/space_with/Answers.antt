use Rattle.std.proofs.Common.{sym, subst}
use Rattle.aml_namespace.specs.Known.{StandsFor}
use Rattle.aml_load.proofs.Givens.{one_more}
use Rattle.aml_load.proofs.loading.space_with.Goals as goal

pub loop-path-preserved : goal.loop-path-preserved
loop-path-preserved c =
    let more = one_more c.args.givens.now c.loop-path.path-index c.loop-path-item.result c.loop-path-test.true c.loop-path-item.is in
    record {
      stands =
          subst (λ es. StandsFor c.given.new.self es) (sym more)
          (rw c.get.ensures.value at (c.in_ok-given.ensures.stands _ c.loop-path.invariant.stands));
    }
