use Rattle.std.proofs.Common.{◌≡◌, ◌<◌, ◌-◌, ◌++◌, ◌∷◌, [], List, ℕ, ap, sym, ◌∙◌, arith, length}
use Rattle.std.proofs.lemmas.Slice.Eq.{slice_eq-Decides}
use Rattle.std.proofs.lemmas.Bool.Decides.{Decides-eqb}
use Rattle.aml_space.specs.Nodes.{path_of}
use Rattle.aml_space.proofs.Named.{lower_up, path_on}
use Rattle.aml_space.proofs.Targets.{path_read}
use Rattle.aml_space.proofs.growing.is_last.Goals as goal

pub returns : goal.returns
returns c = λ is.
    let ns = c.args.nodes.now in
    let last = length ns - 1 in
    let met = c.link-parent.result in
    let some : 0 < last = omega (arith, c.if-last-eq0.false) in
    let within : last < length ns = omega (arith, some) in
    let above : met.0 ≡ c.args.above = c.if-parent-index.false ∙ c.index.ensures.number in
    let own : met.1 ≡ c.args.seg = ap (λ (bytes : List ℕ). record { 0 = bytes }) ((slice_eq-Decides Decides-eqb met.1.0 c.args.seg.0 c.eq.result c.eq.ensures).0 is) in
    let low : c.args.above < length ns = omega (arith, above, within, lower_up ns c.requires last met some within c.link-parent.ensures) in
    path_on ns c.requires last some within ∙ ap (λ l. path_of ns l.0 ++ l.1 ∷ []) (sym c.link-parent.ensures)
    ∙ (λ i. path_of ns (above i) ++ own i ∷ []) ∙ ap (λ q. q ++ c.args.seg ∷ []) (sym (path_read ns c.args.above low))
