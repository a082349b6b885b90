-- The lines of a term end with a newline.
use Rattle.asl_text.proofs.Common.{◌≡◌, ℕ, ◌-◌, None, List, [], ◌++◌, length, take, append_assoc, refl, sym, ap, ◌∙◌}
use Rattle.asl_text.proofs.Common.{arith, length-append, take-append_seam, word, head_of, inline, tail_text}
use Rattle.asl_text.proofs.Common.{field_lines, deeper, indent, line, opening, block, lines, op_lines, all_lines}
use Rattle.aml_code.specs.Tree.{Tree, op, Parts, Tail, terms, fields, body}

abbrev Ends : List ℕ → Type 0
Ends text = (front : List ℕ) × (text ≡ front ++ word "\n")

ends_line : (level : ℕ) (text : List ℕ) → Ends (line level text)
unfolding line
ends_line level text = (indent level ++ text, refl)

ends_block : (level : ℕ) (head inside : List ℕ) → Ends (block level head inside)
unfolding line
ends_block level head inside =
    ((opening level head ++ inside) ++ (indent level ++ word "}"), sym (append_assoc (opening level head ++ inside) (indent level ++ word "}") (word "\n")))

ends_op : (level o : ℕ) (ps : Parts) (r : Tail) → Ends (op_lines [] None level o ps r)
ends_op level o ps (terms ts) = ends_block level (head_of o ps) (all_lines (deeper level) ts)
ends_op level o ps (fields us) = ends_block level (head_of o ps) (field_lines (deeper level) us)
ends_op level o ps (body start len) = ends_line level (head_of o ps)
ends_op level o ps r = ends_line level (head_of o ps ++ tail_text r)

pub ends_lines : (level : ℕ) (t : Tree) → Ends (lines level t)
ends_lines level (op o w ps r) = ends_op level o ps r
ends_lines level t = ends_line level (inline t)

-- what is cut off comes back
pub cut_newline : (text front : List ℕ) (n : ℕ) → n ≡ length text → text ≡ front ++ word "\n"
    → take (n - 1) text ++ word "\n" ≡ text
unfolding word
cut_newline text front n long is =
    let count : n - 1 ≡ length front = omega (arith, long, ap length is, length-append front (word "\n")) in
    ap (λ (l : List ℕ). l ++ word "\n") ((λ t. take (count t) (is t)) ∙ take-append_seam front (word "\n")) ∙ sym is
