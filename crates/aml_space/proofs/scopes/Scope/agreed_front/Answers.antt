use Rattle.std.specs.Prelude.{option_to_list}
use Rattle.std.specs.Option.{option_map}
use Rattle.std.proofs.Common.{◌≡◌, ◌++◌, IfOk, length, take, cond, sym, ap, subst, ◌∙◌}
use Rattle.aml_names.specs.Names.{placed}
use Rattle.aml_names.specs.Searching.{upward, candidates}
use Rattle.aml_space.specs.Candidates.{path_in, outlook_at}
use Rattle.aml_namespace.specs.Searching.{agreed_among}
use Rattle.aml_namespace.proofs.Finding.{one_led}
use Rattle.aml_space.proofs.scopes.Scope.agreed_front.Goals as goal

pub returns-then-not-is_single-clause-led : goal.returns-then-not-is_single-clause-led
returns-then-not-is_single-clause-led c =
    let o = outlook_at c.args.self.now in
    let scope = (path_in c.args.self.now) in
    let name = c.args.name.now in
    let single = sym c.is_single.ensures ∙ c.if-not-is_single.true in
    let one : candidates scope name ≡ option_to_list (placed scope name) =
    ap (λ b. cond b (upward (length scope) scope name.segs) (option_to_list (placed scope name))) single in
    subst (λ q. IfOk c.placed_front.result (λ front. option_map (λ n. take n scope ++ name.segs) front ≡ q))
    (one_led o scope name.segs (placed scope name) ∙ sym (ap (agreed_among o) one)) c.placed_front.ensures.found
