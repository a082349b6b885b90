-- The rows of a space are those of the entries that it stands for.
use Rattle.std.specs.FinMap as map
use Rattle.std.specs.Prelude.{slice_get}
use Rattle.std.proofs.Common.{◌≡◌, ℕ, zero, suc, List, [], ◌∷◌, map as map_list, Option, Some, None, refl, sym, ap}
use Rattle.std.proofs.Common.{subst, ◌∙◌}
use Rattle.std.proofs.lemmas.Option.{same_Some}
use Rattle.aml_names.specs.declared.segments.Seg.{Seg}
use Rattle.aml_namespace.specs.Kinds.{Kind}
use Rattle.aml_namespace.specs.Known.{AreRows, Known, Declared, StandsFor, declaration_at, declared_kind, row_of}
use Rattle.aml_namespace.specs.Namespace.{Entry, declared_at}
use Rattle.aml_namespace.specs.Runs.{surely_declared, times_at}
use Rattle.aml_names.specs.Paths.{path_cmp}
use Rattle.aml_children.proofs.Order.{Rises, rises_from}
use Rattle.aml_children.proofs.Places.{rise_at, found_at, place_of}
use Rattle.aml_namespace.proofs.Stands.{first_said, surely_said, said_sure, times_said, said_times}

module _ {A B : Type 0} (f : A → B) where
  got : (xs : List A) (i : ℕ) (b : B) → slice_get (map_list f xs) i ≡ Some b
      → (a : A) × (slice_get xs i ≡ Some a) × (f a ≡ b)
  got [] i b at = absurd cc
  got (x ∷ xs) zero b at = (x, refl, same_Some (f x) b at)
  got (x ∷ xs) (suc i) b at = got xs i b at

  given_back : (xs : List A) (i : ℕ) (a : A) → slice_get xs i ≡ Some a → slice_get (map_list f xs) i ≡ Some (f a)
  given_back [] i a at = absurd cc
  given_back (x ∷ xs) zero a at = ap (λ y. Some (f y)) (same_Some x a at)
  given_back (x ∷ xs) (suc i) a at = given_back xs i a at

-- a declared path has a declaration of this kind
with_kind : (o : Option Declared) (k : Kind) → declared_kind o ≡ Some k → (d : Declared) × (o ≡ Some d)
with_kind None k is = absurd cc
with_kind (Some d) k is = (d, refl)

pub entries_rows : (k : Known) (es : List Entry) → StandsFor k es
    → AreRows es (map_list row_of (map.entries k.declarations))
entries_rows k es s = record {
  rise = λ i j a b less at_i at_j.
      let x = got row_of (map.entries k.declarations) i a at_i in
      let y = got row_of (map.entries k.declarations) j b at_j in
      (λ t. path_cmp (sym x.2 t).path (sym y.2 t).path) ∙ rise_at (map.entries k.declarations) i j x.0 y.0 rises less x.1 y.1;
  declared = λ i a at.
      let x = got row_of (map.entries k.declarations) i a at in
      subst (λ r. declared_at es r.path ≡ Some r.kind) x.2 (sym (first_said x.0.0 es) ∙ ap declared_kind (said x.0 i x.1));
  sure = λ i a at.
      let x = got row_of (map.entries k.declarations) i a at in
      subst (λ r. r.sure ≡ surely_declared es r.path) x.2 (sym (surely_said x.0.0 es ∙ ap said_sure (said x.0 i x.1)));
  times = λ i a at.
      let x = got row_of (map.entries k.declarations) i a at in
      subst (λ r. r.times ≡ times_at es r.path) x.2 (sym (times_said x.0.0 es ∙ ap said_times (said x.0 i x.1)));
  whole = λ p kind at.
      let d = with_kind (declaration_at es p) kind (first_said p es ∙ at) in
      let place = place_of p d.0 (map.entries k.declarations) (sym (map.get-entries k.declarations p) ∙ s.same_declared p ∙ d.1) in
      (place.0, row_of (p, d.0), given_back row_of (map.entries k.declarations) place.0 (p, d.0) place.1, refl);
}
  where
    rises : Rises (map.entries k.declarations)
    rises = rises_from (map.entries k.declarations) (map.entries_sorted k.declarations)

    said : (e : List Seg × Declared) (i : ℕ) → slice_get (map.entries k.declarations) i ≡ Some e
        → declaration_at es e.0 ≡ Some e.1
    said e i at = sym (s.same_declared e.0) ∙ map.get-entries k.declarations e.0 ∙ found_at (map.entries k.declarations) i e rises at
