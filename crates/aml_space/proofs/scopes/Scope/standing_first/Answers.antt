use Rattle.std.proofs.Common.{◌≡◌, ◌++◌, ◌∷◌, [], true, false, List, length, get_or, refl, sym, ap, ◌∙◌, arith}
use Rattle.std.specs.Prelude.{◌==◌}
use Rattle.std.proofs.lemmas.Bool.{false≢true, ne_eqb}
use Rattle.aml_names.specs.declared.segments.Seg.{Seg}
use Rattle.aml_namespace.specs.Predefined.{predefined}
use Rattle.aml_namespace.proofs.NotPredefined.{predefined_parts}
use Rattle.aml_space.specs.Candidates.{path_in}
use Rattle.aml_space.proofs.Beyond.{first_of_path}
use Rattle.aml_space.proofs.scopes.Scope.standing_first.Goals as goal

alone : (s : Seg) (segs : List Seg) → true ≡ (length segs == 0) → predefined (s ∷ []) ≡ predefined (s ∷ segs)
alone s [] none = refl
alone s (t ∷ rest) none = absurd (false≢true (sym (ne_eqb (length (t ∷ rest)) 0 (λ z. omega (arith, z))) ∙ sym none))

pub returns-then-is_empty : goal.returns-then-is_empty
returns-then-is_empty c =
    let path = path_in c.args.self.now in
    λ paths. c.predefined_kind.ensures paths ∙ ap (λ s. predefined (s ∷ [])) c.segment_at.ensures
    ∙ alone (get_or path 0 (record { 0 = [] })) c.args.segs.now (sym c.if-is_empty.true ∙ c.is_empty.ensures)
    ∙ sym (ap (λ q. predefined (q ++ c.args.segs.now)) (first_of_path path c.requires.within))

pub returns-else-is_empty : goal.returns-else-is_empty
returns-else-is_empty c =
    let path = path_in c.args.self.now in
    let first = first_of_path path c.requires.within in
    λ paths. sym (ap (λ q. predefined (q ++ c.args.segs.now)) first
    ∙ predefined_parts (get_or path 0 (record { 0 = [] }) ∷ []) c.args.segs.now (λ _. false) (sym c.if-is_empty.false ∙ c.is_empty.ensures))
