use Rattle.std.proofs.Common.{◌≡◌, Some, sym, subst, ap, ◌∙◌}
use Rattle.std.specs.Prelude.{slice_get}
use Rattle.std.specs.Option.{option_map, option_or}
use Rattle.aml_namespace.specs.Kinds.{kind_in, target_in}
use Rattle.aml_namespace.specs.Known.{Known, namespace_in}
use Rattle.aml_namespace.specs.Namespace.{target_by}
use Rattle.aml_namespace.specs.Predefined.{predefined}
use Rattle.aml_space.specs.Nodes.{path_of, paths_in, IsIndex}
use Rattle.aml_space.proofs.Keeping.{numbered}
use Rattle.aml_space.specs.Below.{path_below}
use Rattle.aml_space.proofs.spaces.Space.number_target.Goals as goal

pub returns-in-Some-Alias-clause-ok : goal.returns-in-Some-Alias-clause-ok
returns-in-Some-Alias-clause-ok c =
    let ns = c.as_slice.result.now in
    let k = c.args.self.now in
    let path = (path_below c.args.self.now.paths c.args.path.now) in
    let nodes = c.as_slice.ensures.value in
    let paths = ap paths_in nodes ∙ ap (λ (k : Known). k.paths) c.self.view_is in
    let at = c.numbered-at.result in
    let is = subst IsIndex (sym nodes) c.self.invariant.index in
    let target : target_by (option_or ((namespace_in k).declared path) (predefined path)) path ≡ target_in k.paths c.in-Some-Alias.target =
    ap (λ o. target_by (option_or o (predefined path)) path) (sym c.declared.ensures ∙ ap (option_map (kind_in k.paths)) c.in-Some-Alias.is)
    ∙ ap (λ kind. target_by (Some (kind_in k.paths kind)) path) c.in-Some-Alias.field-0-is in
    (λ i. slice_get (sym paths i) (c.new.ensures i)) ∙ numbered ns is (path_of ns at) at (is.there at c.numbered-at.ensures.within)
    ∙ ap (λ p. Some p) (c.numbered-at.ensures.path ∙ ap (λ ps. target_in ps c.in-Some-Alias.target) paths ∙ sym target)
