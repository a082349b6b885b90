use Rattle.std.specs.Prelude.{◌||◌}
use Rattle.std.specs.FinSet as set
use Rattle.std.specs.Option.{option_map}
use Rattle.std.proofs.Common.{◌++◌, List, take, Some, None, cond, sym, ap, ◌∙◌}
use Rattle.aml_names.specs.declared.segments.Seg.{Seg}
use Rattle.aml_space.specs.Candidates.{path_in, names_of}
use Rattle.aml_namespace.specs.Runs.{is_known}
use Rattle.aml_namespace.proofs.Finding.{placed_first}
use Rattle.aml_space.proofs.scopes.Scope.placed_front.Goals as goal

pub returns-then-branch-clause-found : goal.returns-then-branch-clause-found
returns-then-branch-clause-found g c =
    let s = c.args.self.now in
    let name = c.args.name.now in
    let path : List Seg → List Seg = λ segs. take c.in-Some.front (path_in s) ++ segs in
    ap (λ b. cond b (Some (path name.segs)) None) (sym c.if-branch.true) ∙ placed_first (names_of s) (g.L.Seen.paths c.args.locals.now) (path_in s) name (path name.segs) _
    (c.front_of.ensures.placed ∙ ap (option_map (λ front. take front (path_in s) ++ name.segs)) c.in-Some.is)
    (c.in_ok-is_meant-in-Some.ensures ∙ ap (λ segs. set.contains (g.L.Seen.paths c.args.locals.now) (path segs) || is_known (names_of s) (path segs)) c.as_slice.ensures)

pub returns-else-branch-clause-found : goal.returns-else-branch-clause-found
returns-else-branch-clause-found g c =
    let s = c.args.self.now in
    let name = c.args.name.now in
    let path : List Seg → List Seg = λ segs. take c.in-Some.front (path_in s) ++ segs in
    ap (λ b. cond b (Some (path name.segs)) None) (sym c.if-branch.false) ∙ placed_first (names_of s) (g.L.Seen.paths c.args.locals.now) (path_in s) name (path name.segs) _
    (c.front_of.ensures.placed ∙ ap (option_map (λ front. take front (path_in s) ++ name.segs)) c.in-Some.is)
    (c.in_ok-is_meant-in-Some.ensures ∙ ap (λ segs. set.contains (g.L.Seen.paths c.args.locals.now) (path segs) || is_known (names_of s) (path segs)) c.as_slice.ensures)
