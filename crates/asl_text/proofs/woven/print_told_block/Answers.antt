use Rattle.asl_text.proofs.Common.{◌≡◌, ◌++◌, ℕ, List, length, drop, subst, ap, ◌∙◌, prints_then, Prints}
use Rattle.asl_text.proofs.Common.{bodies_lines, quoted, word, opening, line}
use Rattle.asl_text.specs.Tables.{woven}
use Rattle.asl_text.proofs.woven.print_told_block.Goals as goal

pub returns-clause-prints : goal.returns-clause-prints
returns-clause-prints g c =
    let f = g.W.Write.contents in
    let bs = bodies_lines c.args.bodies in
    let code = c.args.code.now in
    let text = c.args.text.now in
    let inside = woven code bs text.text.items 0 text.places.items in
    let is : woven code bs c.as_slice.result.now 0 c.as_slice-2.result.now ≡ inside =
    λ i. woven code bs (c.as_slice.ensures.value i) 0 (c.as_slice-2.ensures.value i) in
    let head = opening 0 (word "DefinitionBlock (" ++ quoted c.args.name.now ++ word ")") in
    let made = subst (λ (l : List ℕ). Prints f c.print_opening.new.out c.print_woven-others.new.out l) is
    c.print_woven-others.ensures.prints in
    prints_then f c.args.out.now c.print_woven-others.new.out c.print_closing.new.out (head ++ inside) (line 0 (word "}"))
    (prints_then f c.args.out.now c.print_opening.new.out c.print_woven-others.new.out head inside c.print_opening.ensures made)
    c.print_closing.ensures

pub returns-clause-others : goal.returns-clause-others
returns-clause-others g c =
    c.print_woven-others.ensures.others ∙ ap (λ n. drop n (bodies_lines c.args.bodies)) (ap length c.as_slice-2.ensures.value)
