use Rattle.std.proofs.Common.{◌+◌, ◌-◌, ◌≤◌, List, ℕ, length, take, drop, length-take, length-drop, subst, arith}
use Rattle.std.specs.Io.KnownBytes.{Appends}
use Rattle.std.proofs.KnownBytes.{Appends-trans}
use Rattle.text_writer.proofs.PrintLaws.{taken_more}
use Rattle.text_writer.proofs.output.send.Goals as goal

pub writes-preserved : goal.writes-preserved
writes-preserved g c =
    let bs = c.args.bytes.now in
    let done = c.writes.done in
    let rest : List ℕ = take (length bs - done) (drop done bs) in
    let fits : done + c.in-Some.taken ≤ length bs = omega (
      arith,
      c.in-Some.ensures.bound,
      length-take (length bs - done) (drop done bs),
      length-drop done bs,
      c.writes.invariant.0,
    ) in
    let both = Appends-trans (g.W.Write.contents c.args.to.now) (g.W.Write.contents c.writes.to) (g.W.Write.contents c.write_some.new.to) (take done bs)
    (take c.in-Some.taken rest) c.writes.invariant.1 c.in-Some.ensures.sent in
    (fits, subst (Appends (g.W.Write.contents c.args.to.now) (g.W.Write.contents c.write_some.new.to)) (taken_more done c.in-Some.taken bs) both)
