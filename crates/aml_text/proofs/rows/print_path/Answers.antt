use Rattle.std.specs.Prelude.{take}
use Rattle.std.proofs.lemmas.List.{length-take, length-drop, take_all}
use Rattle.std.proofs.Math.Seq.{take-add}
use Rattle.aml_text.proofs.Common.{◌≤◌, ◌+◌, ◌++◌, length, drop, sym, ap, subst, ◌∙◌, arith, append_assoc, Prints, word}
use Rattle.aml_text.proofs.Common.{prints_then, prints_word}
unfoldable use Rattle.aml_text.specs.Rows.{path_text}
use Rattle.aml_text.proofs.RowLaws.{dotted, dotted_join}
use Rattle.aml_text.proofs.rows.print_path.Goals as goal

pub loop-done-preserved : goal.loop-done-preserved
loop-done-preserved g c =
    let f = g.W.Write.contents in
    let p = c.args.path.now in
    let d = c.loop-done.done in
    let n = c.copy_segs-count.result in
    let inv = c.loop-done.invariant in
    let all = c.depth-depth.ensures in
    let room : 1 ≤ length c.loop-done.window = omega (arith, inv.long, c.copy_segs-done.ensures.long, c.requires.room) in
    let one : 1 ≤ n = omega (arith, c.copy_segs-count.ensures.count, room, c.loop-done-test.true, all) in
    let few : d + n ≤ length p = omega (arith, c.copy_segs-count.ensures.count, c.loop-done-test.true, all) in
    let part : 1 ≤ length (take n (drop d p)) = omega (arith, length-take n (drop d p), length-drop d p, one, few) in
    let front : 1 ≤ length (take d p) = omega (arith, length-take d p, inv.some c.loop-done-test.true, few) in
    record {
      within = omega (arith, few, all);
      some = λ more. omega (arith, one);
      long = c.copy_segs-count.ensures.long ∙ inv.long;
      text = subst (Prints f c.args.out.now c.print_segments-in-loop-done.new.out)
          (append_assoc (word "\\") (dotted (take d p)) (word "." ++ dotted (take n (drop d p)))
          ∙ ap (λ text. word "\\" ++ text) (sym (ap dotted (take-add d n p) ∙ dotted_join (take d p) (take n (drop d p)) front part)))
          (prints_then f c.args.out.now c.loop-done.out c.print_segments-in-loop-done.new.out (word "\\" ++ dotted (take d p))
          (word "." ++ dotted (take n (drop d p))) inv.text
          (prints_then f c.loop-done.out c.put.new.self c.print_segments-in-loop-done.new.out (word ".") (dotted (take n (drop d p)))
          (prints_word f c.loop-done.out c.put.new.self "." c.put.ensures)
          (subst (λ segs. Prints f c.put.new.self c.print_segments-in-loop-done.new.out (dotted segs)) c.copy_segs-count.ensures.copied
          c.print_segments-in-loop-done.ensures)));
    }

pub returns-clause-text : goal.returns-clause-text
unfolding path_text
returns-clause-text g c =
    subst (λ segs. Prints g.W.Write.contents c.args.out.now c.loop-done.out (word "\\" ++ dotted segs))
    (take_all c.loop-done.done c.args.path.now (omega (arith, c.loop-done-test.false, c.depth-depth.ensures))) c.loop-done.invariant.text
