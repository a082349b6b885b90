use Rattle.std.proofs.Common.{◌≡◌, ◌+◌, Ok, Err, Result, OnOk, true, subst, sym}
use Rattle.aml_space.specs.Edges.{has_edge}
use Rattle.aml_space.specs.Candidates.{AreEdged}
use Rattle.aml_space.proofs.Stepping.{edged_more, edged_root}
use Rattle.aml_space.proofs.ways.add_edge.Goals as goal

pub returns-then-at-eq0-clause-edged : goal.returns-then-at-eq0-clause-edged
returns-then-at-eq0-clause-edged c = subst (λ n. AreEdged c.args.nodes.now (n + 1) c.args.edges.now) {x = 0} {y = c.args.at} (sym c.if-at-eq0.true)
    (edged_root c.args.nodes.now c.args.edges.now c.requires.index)

pub returns-clause-old : goal.returns-clause-old
returns-clause-old c = λ q s i j here there less. c.add.ensures.old s i (c.requires.edged q s i j here there less)

pub returns-clause-edged : goal.returns-clause-edged
returns-clause-edged c = by c.add.result c.add.ensures.new
  where
    by : {R E : Type 0} (r : Result R E) → OnOk r (has_edge c.add.new.self c.link-parent.result.1 c.link-parent.result.0 ≡ true)
        → OnOk r (AreEdged c.args.nodes.now (c.args.at + 1) c.add.new.self)
    by (Err e) new = tt
    by (Ok x) new = edged_more c.args.nodes.now c.args.at c.args.edges.now c.add.new.self c.link-parent.result c.requires.index c.link-parent.ensures
        c.requires.edged c.add.ensures.old new
