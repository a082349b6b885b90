use Rattle.aml_names.proofs.Fronts.{apart_by, same_by}
use Rattle.aml_names.proofs.paths.same_segs.Goals as goal

pub returns-else-a-b : goal.returns-else-a-b
returns-else-a-b c = apart_by c.args.a.now c.args.b.now c.if-a-b.false

pub returns-then-a-b : goal.returns-then-a-b
returns-then-a-b c =
    same_by c.common.result c.args.a.now c.args.b.now c.common.ensures.some c.if-a-b.true c.common.ensures.same c.common.ensures.most
