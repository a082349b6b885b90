use Rattle.std.proofs.Common.{◌++◌, take, sym, ap, ◌∙◌}
use Rattle.std.specs.FinSet as set
use Rattle.aml_names.specs.Paths.{PathSet, path_cmp}
use Rattle.aml_names.proofs.locals.Locals.has_below.Goals as goal

pub returns-then-is_empty : goal.returns-then-is_empty
returns-then-is_empty c =
    let path = take c.args.front c.args.scope.now ++ c.args.segs.now in
    sym (ap (λ (ls : PathSet). set.contains ls path) (c.is_empty.ensures.0 c.if-is_empty.true) ∙ set.contains-empty path_cmp path)
