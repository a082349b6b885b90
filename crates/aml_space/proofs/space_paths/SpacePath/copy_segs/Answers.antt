use Rattle.std.proofs.Common.{◌≡◌, ◌-◌, ◌≤◌, length, take, ap, ◌∙◌, arith}
use Rattle.aml_space.specs.Nodes.{path_of}
use Rattle.aml_space.proofs.Named.{last_part}
use Rattle.aml_space.proofs.space_paths.SpacePath.copy_segs.Goals as goal

pub returns-clause-copied : goal.returns-clause-copied
returns-clause-copied c =
    let p = c.args.self.now in
    let n = c.min-count.result in
    let from = c.args.from in
    let here : path_of c.self.inside.nodes.now c.self.inside.at ≡ p = c.self.view_is in
    let rest : c.saturating_sub-rest.result ≡ length p - from = c.saturating_sub-rest.ensures
    ∙ ap (λ d. d - from) c.depth.ensures in
    let few : n ≤ length p - from = omega (arith, c.min-count.ensures, rest) in
    c.fill.ensures.copied ∙ last_part p from n _ few
    (c.ancestor-last.ensures.path ∙ (λ i. take (length (here i) - (rest i - n)) (here i)))
