use Rattle.std.proofs.Common.{Some, sym, ◌∙◌}
use Rattle.aml_space.specs.Nodes.{kids_of}
use Rattle.aml_children.proofs.Walks.{kid_range, led_step}
use Rattle.aml_space.proofs.walking.node_from.Goals as goal

pub loop-seg-preserved : goal.loop-seg-preserved
loop-seg-preserved c =
    let found = sym c.child.ensures ∙ c.in-Some.is in
    record {
      led = c.loop-seg.invariant.led ∙ led_step (kids_of c.args.nodes.now) c.loop-seg.at c.loop-seg.seg-index c.args.segs.now _ (Some c.in-Some.next)
          c.loop-seg-test.true found;
      within = (kid_range c.requires.shape c.loop-seg.at _ c.in-Some.next found).1;
    }
