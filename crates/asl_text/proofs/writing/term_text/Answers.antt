use Rattle.asl_text.proofs.Common.{◌≡◌, ◌++◌, List, ℕ, append-nil, ap, ◌∙◌, node_view, nodes_view, word, lines}
use Rattle.asl_text.proofs.Common.{all_lines}
use Rattle.asl_text.proofs.EndLaws.{ends_lines, cut_newline}
use Rattle.asl_text.proofs.writing.term_text.Goals as goal

pub returns-in-Ok : goal.returns-in-Ok
returns-in-Ok c =
    let written = c.write_text.new.out in
    let line = lines 0 (node_view c.args.node.now) in
    let all : written.items ≡ line = c.in-Ok.ensures ∙ ap (λ (l : List ℕ). l ++ all_lines 0 (nodes_view c.from_ref.result.now)) c.new-text.ensures.items
    ∙ ap (λ ns. all_lines 0 (nodes_view ns)) c.from_ref.ensures.value ∙ append-nil line in
    let end = ends_lines 0 (node_view c.args.node.now) in
    ap (λ (l : List ℕ). l ++ word "\n") c.pop.ensures.rest ∙ cut_newline written.items end.0 _ written.ok.0 (all ∙ end.1) ∙ all
