use Rattle.std.proofs.Common.{[], get_or, sym, ap, ◌∙◌, arith}
use Rattle.std.proofs.lemmas.List.{get_or_past}
use Rattle.aml_space.specs.Nodes.{paths_in}
use Rattle.aml_space.proofs.Targets.{path_read, paths_long}
use Rattle.aml_space.proofs.space_paths.numbered.Goals as goal

pub returns-then-at-nodes-clause-path : goal.returns-then-at-nodes-clause-path
returns-then-at-nodes-clause-path c =
    let ns = c.args.nodes.now in
    let at = c.index-at.result in
    sym (path_read ns at (omega (arith, c.if-at-nodes.true))) ∙ ap (λ n. get_or (paths_in ns) n []) c.index-at.ensures.number

pub returns-else-at-nodes-clause-path : goal.returns-else-at-nodes-clause-path
returns-else-at-nodes-clause-path c =
    let ns = c.args.nodes.now in
    sym (get_or_past (paths_in ns) c.args.id []
    (omega (arith, c.if-at-nodes.false, c.index-at.ensures.number, paths_long ns)))
