-- The set that a tree set's keys make.
use Rattle.std.proofs.Common.{◌≡◌, length, Bool, true, false, cond, ◌||◌, List, [], ◌∷◌, refl, sym, ap, ◌∙◌}
use Rattle.std.proofs.lemmas.Bool.{false≢true}
use Rattle.std.specs.Cmp.{eq_by_cmp_equiv}
use Rattle.std.specs.List.{list_any}
use Rattle.std.specs.BTreeMap.{is_at}
use Rattle.std.specs.FinSet as set
use Rattle.aml_names.specs.declared.segments.Seg.{Seg}
use Rattle.aml_names.specs.Paths.{path_cmp, paths_total}

pub any_path : (ks : List (List Seg)) (q : List Seg) → set.contains (set.from_list {R = path_cmp} ks) q ≡ list_any (is_at (path_cmp q)) ks
any_path ks q = set.contains-from_list paths_total ks q

or_by_cond : (a b : Bool) → cond a true b ≡ (a || b)
or_by_cond true b = refl
or_by_cond false b = refl

-- keys that make the empty set are none
pub no_keys : (ks : List (List Seg)) → set.from_list {R = path_cmp} ks ≡ set.empty → length ks ≡ 0
no_keys [] e = refl
no_keys (k ∷ ks) e =
    let here : set.contains (set.from_list {R = path_cmp} (k ∷ ks)) k ≡ true =
    any_path (k ∷ ks) k ∙ ap (λ b. b || list_any (is_at (path_cmp k)) ks) ((eq_by_cmp_equiv paths_total).refl k) in
    absurd (false≢true (sym (ap (λ s. set.contains s k) e ∙ set.contains-empty path_cmp k) ∙ here))

-- no keys make the empty set
pub empty_of : (ks : List (List Seg)) → length ks ≡ 0 → set.from_list {R = path_cmp} ks ≡ set.empty
empty_of [] e = refl
empty_of (k ∷ ks) e = cc
