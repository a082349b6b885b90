use Rattle.std.proofs.Common.{◌≡◌, ◌+◌, ◌-◌, ◌∷◌, ◌++◌, length, take, drop, set, sym, ap, ◌∙◌, arith, length-append}
use Rattle.std.proofs.lemmas.List.{length-set, length-take, length-drop, drop-set}
use Rattle.std.proofs.Math.Seq.{take-set-lt}
use Rattle.aml_space.specs.Nodes.{path_of}
use Rattle.aml_space.proofs.Named.{not_root, step_up, lower_up}
use Rattle.aml_space.proofs.parents.fill.Goals as goal

pub loop-place-preserved : goal.loop-place-preserved
loop-place-preserved c =
    let ns = c.args.nodes.now in
    let at = c.loop-place.at in
    let l = c.link-parent.result in
    let inv = c.loop-place.invariant in
    let front = take c.args.count c.loop-place.buffer in
    let k = c.loop-place.place - 1 in
    let next : k + 1 ≡ c.loop-place.place = omega (arith, c.loop-place-test.true) in
    let room : length front ≡ c.args.count = length-take c.args.count c.loop-place.buffer ∙ omega (arith, inv.long, c.requires.room) in
    let rest : length (drop c.loop-place.place front) ≡ c.args.count - c.loop-place.place =
    length-drop c.loop-place.place front ∙ ap (λ n. n - c.loop-place.place) room in
    let long = ap length (sym inv.filled) ∙ length-append (path_of ns at) (drop c.loop-place.place front) in
    let some = not_root ns at (omega (arith, long, rest, inv.few, c.requires.path, c.loop-place-test.true)) in
    let lower = lower_up ns c.requires.index at l some inv.within c.link-parent.ensures in
    let put : drop k (take c.args.count (set c.loop-place.buffer k l.1)) ≡ l.1 ∷ drop c.loop-place.place front =
    ap (drop k) (take-set-lt c.args.count c.loop-place.buffer k l.1 (omega (arith, next, inv.few)))
    ∙ drop-set front k l.1 (omega (arith, room, next, inv.few)) ∙ ap (λ n. l.1 ∷ drop n front) next in
    record {
      within = omega (arith, lower, inv.within);
      few = omega (arith, inv.few);
      long = length-set c.loop-place.buffer k l.1 ∙ inv.long;
      filled = ap (λ q. path_of ns l.0 ++ q) put
          ∙ step_up ns c.requires.index at l (drop c.loop-place.place front) some inv.within c.link-parent.ensures ∙ inv.filled;
    }
