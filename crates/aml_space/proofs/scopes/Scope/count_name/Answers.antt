use Rattle.std.specs.Prelude.{IfOk}
use Rattle.std.specs.Option.{option_map, option_to_list}
use Rattle.std.proofs.Common.{◌≡◌, [], ◌∷◌, ◌++◌, List, length, take, cond, sym, ap, subst, ◌∙◌}
use Rattle.aml_names.specs.declared.segments.Seg.{Seg}
use Rattle.aml_names.specs.Searching.{upward, candidates}
use Rattle.aml_space.specs.Candidates.{path_in, outlook_at}
use Rattle.aml_namespace.specs.Searching.{agreed_at}
use Rattle.aml_space.proofs.scopes.Scope.count_name.Goals as goal

pub returns-in-Some : goal.returns-in-Some
returns-in-Some g c =
    let s = c.args.self.now in
    let scope = (path_in s) in
    let name = c.args.name.now in
    let single = sym c.is_single.ensures ∙ c.if-is_single.false in
    let led = c.front_of.ensures.placed ∙ ap (option_map (λ front. take front scope ++ name.segs)) c.in-Some.is in
    let one : candidates scope name ≡ (take c.in-Some.front scope ++ name.segs) ∷ [] =
    λ i. cond (single i) (upward (length scope) scope name.segs) (option_to_list (led i)) in
    let same = ap (λ (segs : List Seg). (take c.in-Some.front scope ++ segs) ∷ []) c.as_slice-in-Some.ensures in
    subst (λ paths. IfOk c.count_placed.result (λ count. count ≡ agreed_at (outlook_at s) c.args.unknown_zero (g.L.Seen.paths c.args.locals.now) paths)) (same ∙ sym one)
    c.count_placed.ensures
