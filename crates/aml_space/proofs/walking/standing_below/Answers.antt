use Rattle.std.proofs.Common.{◌++◌, length, sym, ap, ◌∙◌, arith}
use Rattle.std.proofs.lemmas.Bool.{ne_eqb}
use Rattle.aml_namespace.specs.Predefined.{predefined}
use Rattle.aml_namespace.proofs.NotPredefined.{predefined_parts}
use Rattle.aml_space.specs.Nodes.{path_of}
use Rattle.aml_space.proofs.walking.standing_below.Goals as goal

pub returns-else-depth_at-eq0 : goal.returns-else-depth_at-eq0
returns-else-depth_at-eq0 c = λ paths.
    let ns = c.args.nodes.now in
    let at = c.numbered-at.result in
    let own = c.args.path.now.segs.now in
    let deep = c.requires.deep at c.numbered-at.ensures.within in
    sym (ap (λ p. predefined (p ++ own)) (sym c.numbered-at.ensures.path)
    ∙ predefined_parts (path_of ns at) own
    (sym (ne_eqb (length (path_of ns at)) 0 (λ none. c.if-depth_at-eq0.false (omega (arith, c.depth_at.ensures, deep, none)))))
    (sym c.if-is_empty.false ∙ c.is_empty.ensures))
