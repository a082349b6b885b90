-- Entries that rise by their paths, place by place: what stands at a place is found by its path (`found_at`), what is
-- found stands at a place (`place_of`), and later entries have greater paths (`rise_at`).
use Rattle.std.specs.Prelude.{slice_get}
use Rattle.std.specs.Cmp.{tied_itself}
use Rattle.std.proofs.Common.{◌≡◌, ℕ, zero, suc, ◌<◌, Bool, true, false, cond, List, [], ◌∷◌, Some, refl, sym, ap, ◌∙◌}
use Rattle.std.proofs.Common.{arith}
use Rattle.std.specs.Ordering.{eq_by_cmp, is_eq, ordering_reverse}
use Rattle.std.specs.declared.cmp.Ordering.TheVariants.{Less, Greater}
use Rattle.std.specs.FinMap.{find}
use Rattle.std.proofs.lemmas.Map.Views.{tells_apart}
use Rattle.std.proofs.lemmas.Option.{same_Some}
use Rattle.aml_names.specs.declared.segments.Seg.{Seg}
use Rattle.aml_names.specs.Paths.{path_cmp, paths_total, exact_paths}
use Rattle.aml_children.proofs.Order.{After, Rises}

module _ {X : Type 0} where
  after_at : (p : List Seg) (es : List (List Seg × X)) (i : ℕ) (e : List Seg × X) → After p es → slice_get es i ≡ Some e
      → path_cmp p e.0 ≡ Less
  after_at p [] i e a at = absurd cc
  after_at p (f ∷ es) zero e a at = ap (λ (g : List Seg × X). path_cmp p g.0) (sym (same_Some f e at)) ∙ a.0
  after_at p (f ∷ es) (suc i) e a at = after_at p es i e a.1 at

  pub rise_at : (es : List (List Seg × X)) (i j : ℕ) (a b : List Seg × X) → Rises es → i < j → slice_get es i ≡ Some a
      → slice_get es j ≡ Some b
      → path_cmp a.0 b.0 ≡ Less
  rise_at [] i j a b rises less at_i at_j = absurd cc
  rise_at (e ∷ es) i zero a b rises less at_i at_j = absurd (omega (arith, less))
  rise_at (e ∷ es) zero (suc j) a b rises less at_i at_j =
      ap (λ (f : List Seg × X). path_cmp f.0 b.0) (sym (same_Some e a at_i)) ∙ after_at e.0 es j b rises.0 at_j
  rise_at (e ∷ es) (suc i) (suc j) a b rises less at_i at_j = rise_at es i j a b rises.1 (omega (arith, less)) at_i at_j

  pub found_at : (es : List (List Seg × X)) (i : ℕ) (e : List Seg × X) → Rises es → slice_get es i ≡ Some e
      → find path_cmp e.0 es ≡ Some e.1
  found_at [] i e rises at = absurd cc
  found_at (f ∷ es) zero e rises at =
      let same = same_Some f e at in
      ap (λ o. cond (is_eq o) (Some f.1) (find path_cmp e.0 es)) (ap (λ (g : List Seg × X). path_cmp e.0 g.0) same ∙ tied_itself paths_total e.0)
      ∙ ap (λ (g : List Seg × X). Some g.1) same
  found_at (f ∷ es) (suc i) e rises at =
      let more : path_cmp e.0 f.0 ≡ Greater = paths_total.antisymm e.0 f.0 ∙ ap ordering_reverse (after_at f.0 es i e rises.0 at) in
      ap (λ o. cond (is_eq o) (Some f.1) (find path_cmp e.0 es)) more ∙ found_at es i e rises.1 at

  pub place_of : (p : List Seg) (v : X) (es : List (List Seg × X)) → find path_cmp p es ≡ Some v
      → (i : ℕ) × (slice_get es i ≡ Some (p, v))
  place_of p v [] found = absurd cc
  place_of p v (e ∷ es) found = by (eq_by_cmp path_cmp p e.0) refl found (place_of p v es)
    where
      by : (b : Bool) → eq_by_cmp path_cmp p e.0 ≡ b → cond b (Some e.1) (find path_cmp p es) ≡ Some v
          → (find path_cmp p es ≡ Some v → (i : ℕ) × (slice_get es i ≡ Some (p, v)))
          → (i : ℕ) × (slice_get (e ∷ es) i ≡ Some (p, v))
      by true tie found each = (0, λ t. Some (sym (tells_apart exact_paths p e.0 tie) t, same_Some e.1 v found t))
      by false tie found each = let there = each found in (suc there.0, there.1)
