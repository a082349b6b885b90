use Rattle.std.proofs.Common.{◌≡◌, ◌+◌, ◌∷◌, length, sym, ap, ◌∙◌, arith, length-append}
use Rattle.aml_space.specs.Nodes.{path_of}
use Rattle.aml_space.proofs.Named.{not_root, step_up, lower_up}
use Rattle.aml_space.proofs.parents.ancestor.Goals as goal

pub loop-level-preserved : goal.loop-level-preserved
loop-level-preserved c =
    let ns = c.args.nodes.now in
    let at = c.loop-level.at in
    let within = c.loop-level.invariant.0 in
    let rest = c.loop-level.invariant.1.0 in
    let split = c.loop-level.invariant.1.1 in
    let met = c.loop-level.invariant.1.2 in
    let long : length (path_of ns c.args.from) ≡ length (path_of ns at) + length rest = ap length (sym split) ∙ length-append (path_of ns at) rest in
    let some = not_root ns at (omega (arith, long, met, c.requires.levels, c.loop-level-test.true)) in
    let lower = lower_up ns c.requires.index at c.link-parent.result some within c.link-parent.ensures in (
      omega (arith, lower, within),
      (
        c.link-parent.result.1 ∷ rest,
        step_up ns c.requires.index at c.link-parent.result rest some within c.link-parent.ensures ∙ split,
        omega (arith, met),
      ),
    )
