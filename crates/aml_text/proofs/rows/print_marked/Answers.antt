use Rattle.aml_text.proofs.Common.{List, ◌++◌, ℕ, sym, ap, subst, ◌∙◌, append_assoc, Prints, word, prints_then}
use Rattle.aml_text.specs.Rows.{path_text, kind_text, maybe_text, times_text}
use Rattle.aml_text.proofs.rows.print_marked.Goals as goal

pub returns-clause-text : goal.returns-clause-text
returns-clause-text g c =
    let row = c.args.row.now in
    let path = path_text row.0 in
    let kind = kind_text row.1.kind in
    let marks = maybe_text row.1.sure ++ times_text row.1.times in
    subst (Prints g.W.Write.contents c.args.out.now c.print_said.new.out)
    (sym (append_assoc path (word " " ++ kind) marks) ∙ ap (λ (text : List ℕ). text ++ marks) (sym (append_assoc path (word " ") kind)))
    (prints_then g.W.Write.contents c.args.out.now c.print_path.new.out c.print_said.new.out path (word " " ++ kind ++ marks)
    (rw c.path.ensures at c.print_path.ensures.text) c.print_said.ensures.text)
