use Rattle.std.proofs.Common.{rules, ◌≡◌, ◌∷◌}
use Rattle.asl_text.proofs.Common.{map, word, subst, Prints, prints_then}
unfoldable use Rattle.asl_text.specs.Texts.{separated, segment_text}
use Rattle.asl_text.proofs.words.print_segments.Goals as goal

pub returns-then-rest-lt-FEW : goal.returns-then-rest-lt-FEW
unfolding separated
returns-then-rest-lt-FEW g c =
    let whole : c.in-Some.first.now ∷ c.in-Some.rest.now ≡ c.args.segs.now = search rules in
    subst (λ segs. Prints g.W.Write.contents c.args.out.now c.print_few.new.out (separated (word ".") (map segment_text segs))) whole
    (prints_then g.W.Write.contents _ _ _ _ _ c.print.ensures c.print_few.ensures)

pub returns-else-rest-lt-FEW : goal.returns-else-rest-lt-FEW
unfolding separated
returns-else-rest-lt-FEW g c =
    let whole : c.in-Some.first.now ∷ c.in-Some.rest.now ≡ c.args.segs.now = search rules in
    subst (λ segs. Prints g.W.Write.contents c.args.out.now c.print_blocks.new.out (separated (word ".") (map segment_text segs))) whole
    (prints_then g.W.Write.contents _ _ _ _ _ c.print.ensures c.print_blocks.ensures)
