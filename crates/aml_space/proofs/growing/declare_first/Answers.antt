use Rattle.std.proofs.Common.{◌≡◌, length, drop, sym, subst, ap, ◌∙◌, arith, ◌≤◌}
use Rattle.aml_namespace.specs.Kinds.{kind_in}
use Rattle.aml_namespace.specs.Known.{once, with_declaration}
use Rattle.aml_space.specs.Nodes.{known_by, path_by, paths_in, said_in, HasDeclared, IsIndex}
use Rattle.aml_space.proofs.Index.{put_declared}
use Rattle.aml_space.proofs.Keeping.{content_kept, kept_on, more_paths}
use Rattle.aml_space.proofs.Targets.{among_more, paths_long, said_grown}
use Rattle.aml_space.proofs.growing.declare_first.Goals as goal
use Rattle.aml_space.proofs.growing.declare_first.Goals.{After-set_declared}

put_here : (c : After-set_declared)
    → HasDeclared c.extend.new.nodes.items c.set_declared.new.nodes.items c.in_ok-at.at c.in_ok-said.said
    → IsIndex c.set_declared.new.nodes.items × (known_by c.set_declared.new.nodes.items
    ≡ with_declaration (known_by c.args.nodes.now.items) (path_by c.args.nodes.now.items c.args.reach) (once (kind_in (paths_in c.args.nodes.now.items) c.args.kind) c.args.sure))
put_here c has =
    let old = c.args.nodes.now.items in
    let ns = c.extend.new.nodes.items in
    let d = once c.args.kind c.args.sure in
    let said : c.in_ok-said.said ≡ d = c.in_ok-said.ensures in
    let put = put_declared ns c.set_declared.new.nodes.items (path_by c.args.nodes.now.items c.args.reach) c.in_ok-at.at c.extend.ensures.index c.in_ok-at.ensures.node
    d (among_more (length old) (length ns) c.extend.ensures.kept.long d (c.requires.target, tt))
    (subst (λ d. HasDeclared ns c.set_declared.new.nodes.items c.in_ok-at.at d) said has) in
    let same = ap (λ paths. said_in paths d) (more_paths old ns c.requires.index c.extend.ensures.index c.extend.ensures.kept)
    ∙ said_grown (paths_in old) (drop (length old) (paths_in ns)) d
    (among_more (length old) (length (paths_in old)) (subst (λ n. length old ≤ n) (sym (paths_long old)) (omega arith)) d (c.requires.target, tt)) in
    (put.0, put.1 ∙ (λ i. with_declaration (c.extend.ensures.known i) (path_by c.args.nodes.now.items c.args.reach) (same i)))

pub returns-clause-index : goal.returns-clause-index
returns-clause-index c = (put_here (goal.at.returns-clause-index c).After-set_declared c.set_declared.ensures).0

pub returns-clause-ok : goal.returns-clause-ok
returns-clause-ok c = (put_here (goal.at.returns-clause-ok c).After-set_declared c.set_declared.ensures).1

pub returns-clause-kept : goal.returns-clause-kept
returns-clause-kept c = kept_on c.args.nodes.now.items c.extend.new.nodes.items c.set_declared.new.nodes.items c.extend.ensures.kept
    (content_kept c.extend.new.nodes.items c.set_declared.new.nodes.items c.in_ok-at.at _ c.set_declared.ensures)
