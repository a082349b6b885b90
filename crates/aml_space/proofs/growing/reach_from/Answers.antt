use Rattle.std.proofs.Common.{sym, ◌∙◌}
use Rattle.aml_children.proofs.Walks.{kid_range}
use Rattle.aml_space.proofs.Reaching.{step_on}
use Rattle.aml_space.proofs.growing.reach_from.Goals as goal

pub steps-preserved : goal.steps-preserved
steps-preserved c =
    let ns = c.args.nodes.now in
    let found = sym c.child.ensures ∙ c.in-Some.is in
    record {
      within = (kid_range c.requires.index.shape c.steps.at _ c.in-Some.next found).1;
      path = step_on ns c.requires.index c.steps.at c.in-Some.next c.steps.left.now c.in-len1-up.len_at_least found ∙ c.steps.invariant.path;
    }
