use Rattle.std.proofs.Common.{◌+◌, ◌<◌, ◌-◌, ◌^◌, sym, subst, ◌∙◌, arith}
use Rattle.std.specs.Bool.{OnTrue}
use Rattle.aml_names.proofs.BranchLaws.{branch_here, one_deeper}
use Rattle.aml_names.proofs.branches.branch_of.Goals as goal

pub returns-then-not-goes_on-clause-branch : goal.returns-then-not-goes_on-clause-branch
returns-then-not-goes_on-clause-branch g c =
    let walk = c.loop-seg in
    branch_here (g.S.Stand.path c.args.scope.now) c.args.segs.now walk.depth (walk.depth - c.args.front) walk.seg-index (omega (arith, walk.invariant.deep))
    walk.invariant.within c.loop-seg-test.true (sym c.goes_on.ensures.test ∙ c.if-not-goes_on.true)

pub loop-seg-preserved : goal.loop-seg-preserved
loop-seg-preserved g c =
    let walk = c.loop-seg in
    let deeper = one_deeper (g.S.Stand.path c.args.scope.now) c.args.segs.now c.args.front walk.depth walk.seg-index c.loop-seg-test.true
    (sym c.goes_on.ensures.test ∙ c.if-not-goes_on.false) walk.invariant.same in
    record { deep = omega (arith, walk.invariant.deep); within = deeper.0; same = deeper.1 }

pub overflow_add-depth : goal.overflow_add-depth
overflow_add-depth g c =
    let room = subst (λ b. OnTrue b (c.loop-seg.depth + 1 < 2 ^ 64)) c.if-not-goes_on.false c.goes_on.ensures.room in omega (arith, room)
