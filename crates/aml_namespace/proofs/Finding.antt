-- One path is meant where it is one of the locals or is known (`meant_first`, `placed_first`). Which candidate a Scope
-- opens, or an Alias names (`led`): the one that a search finds, unless it has a kind that isn't sure, and another one
-- further up is known.
use Rattle.std.specs.Prelude.{◌||◌, ◌&&◌, option_to_list}
use Rattle.std.proofs.Common.{◌≡◌, ℕ, zero, suc, ◌≤◌, Bool, true, false, not, cond, List, [], ◌∷◌, ◌++◌, take, length}
use Rattle.std.proofs.Common.{Option, Some, None, is_some, refl, sym, ap, ◌∙◌, arith, length-append}
use Rattle.std.proofs.lemmas.Bool.{false≢true}
use Rattle.std.proofs.lemmas.List.{length-take-le}
use Rattle.std.proofs.lemmas.Option.{same_Some}
use Rattle.std.specs.List.{find}
use Rattle.std.specs.Option.{option_or}
use Rattle.std.specs.FinSet as set
use Rattle.aml_names.specs.declared.segments.Seg.{Seg}
use Rattle.aml_names.specs.Paths.{PathSet, path_cmp}
use Rattle.aml_names.specs.declared.names.Name.{Name}
use Rattle.aml_names.specs.Names.{placed}
use Rattle.aml_names.specs.Searching.{upward}
use Rattle.aml_namespace.specs.Namespace.{Namespace, kind_at, decides, is_outside, first_of}
use Rattle.aml_namespace.specs.Runs.{Outlook, is_known, first_agreed, agreed_or}
use Rattle.aml_namespace.specs.Searching.{agreed_among, above}

-- what is found passes the test, and where nothing is found what another test finds doesn't
pub found_holds : (f : List Seg → Bool) (ps : List (List Seg)) (p : List Seg) → find f ps ≡ Some p → f p ≡ true
found_holds f [] p is = absurd cc
found_holds f (q ∷ ps) p is = by (f q) refl (found_holds f ps p) is
  where
    by : (b : Bool) → f q ≡ b → (find f ps ≡ Some p → f p ≡ true) → cond b (Some q) (find f ps) ≡ Some p → f p ≡ true
    by true holds rest is = ap f (sym (same_Some q p is)) ∙ holds
    by false fails rest is = rest is

pub not_found : (f g : List Seg → Bool) (ps : List (List Seg)) (p : List Seg) → find f ps ≡ None → find g ps ≡ Some p
    → f p ≡ false
not_found f g [] p none is = absurd cc
not_found f g (q ∷ ps) p none is = by (f q) refl (g q) (not_found f g ps p) none is
  where
    by : (b : Bool) → f q ≡ b → (c : Bool) → (find f ps ≡ None → find g ps ≡ Some p → f p ≡ false)
        → cond b (Some q) (find f ps) ≡ None
        → cond c (Some q) (find g ps) ≡ Some p → f p ≡ false
    by true holds c rest none is = absurd (false≢true (sym (ap is_some none)))
    by false fails true rest none is = ap f (sym (same_Some q p is)) ∙ fails
    by false fails false rest none is = rest none is

-- a candidate tells its depth
one_depth : (scope segment : List Seg) (a b : ℕ) → a ≤ length scope → b ≤ length scope
    → take a scope ++ segment ≡ take b scope ++ segment → a ≡ b
one_depth scope segment a b within_a within_b same = omega (
  arith,
  ap length same,
  length-append (take a scope) segment,
  length-append (take b scope) segment,
  length-take-le a scope within_a,
  length-take-le b scope within_b,
)

-- one path is meant where it is one of the locals or is known
pub meant_first : (n : Namespace) (locals : PathSet) (p : List Seg)
    → cond (set.contains locals p || is_known n p) (Some p) None ≡ first_of n locals (p ∷ [])
meant_first n locals p = by (set.contains locals p) (is_some (kind_at n p)) (is_outside n p)
  where
    by : (local kind outside : Bool) → cond (local || (kind || outside)) (Some p) None
        ≡ option_or (cond (local || kind) (Some p) None) (cond outside (Some p) None)
    by true kind outside = refl
    by false true outside = refl
    by false false true = refl
    by false false false = refl

-- and of a name that leads to one place
pub placed_first : (n : Namespace) (locals : PathSet) (scope : List Seg) (name : Name) (p : List Seg) (meant : Bool)
    → placed scope name ≡ Some p
    → meant ≡ (set.contains locals p || is_known n p)
    → cond meant (Some p) None ≡ first_of n locals (option_to_list (placed scope name))
placed_first n locals scope name p meant led is = ap (λ b. cond b (Some p) None) is ∙ meant_first n locals p
    ∙ ap (λ o. first_of n locals (option_to_list o)) (sym led)

module _ (o : Outlook) (scope segment : List Seg) where
  decided : (p : List Seg) → decides o.first set.empty p ≡ is_some (kind_at o.first p)
  decided p = ap (λ b. b || is_some (kind_at o.first p)) (set.contains-empty path_cmp p)

  abbrev further_up : ℕ → Bool
  further_up d = is_some (find (is_known o.first) (above scope segment d))

  lead_at : (m d : ℕ) → m ≤ length scope → d ≤ length scope
      → find (decides o.first set.empty) (upward m scope segment) ≡ Some (take d scope ++ segment)
      → first_agreed o (upward m scope segment)
      ≡ Some (cond (o.sure (take d scope ++ segment) || not (further_up d)) (Some (take d scope ++ segment)) None)
  lead_at zero d within_m within_d found = by (is_some (kind_at o.first segment)) refl
      (sym (ap (λ b. cond b (Some segment) None) (decided segment)) ∙ found)
    where
      by : (b : Bool) → is_some (kind_at o.first segment) ≡ b
          → cond (is_some (kind_at o.first segment)) (Some segment) None ≡ Some (take d scope ++ segment)
          → first_agreed o (segment ∷ []) ≡ Some (cond (o.sure (take d scope ++ segment) || not (further_up d)) (Some (take d scope ++ segment)) None)
      by true is found =
          let here = same_Some segment (take d scope ++ segment) (sym (ap (λ b. cond b (Some segment) None) is) ∙ found) in
          let root : 0 ≡ d = one_depth scope segment 0 d (omega arith) within_d here in
          ap (λ b. cond b (Some (cond (o.sure segment || true) (Some segment) None)) None) is
          ∙ ap (λ e. Some (cond (o.sure (take e scope ++ segment) || not (further_up e)) (Some (take e scope ++ segment)) None)) root
      by false is found = absurd (false≢true (ap is_some (sym (ap (λ b. cond b (Some segment) None) is) ∙ found)))
  lead_at (suc m) d within_m within_d found = by (is_some (kind_at o.first (take (suc m) scope ++ segment))) refl
      (lead_at m d (omega (arith, within_m)) within_d)
      (sym (ap (λ b. cond b (Some (take (suc m) scope ++ segment)) (find (decides o.first set.empty) (upward m scope segment)))
      (decided (take (suc m) scope ++ segment))) ∙ found)
    where
      by : (b : Bool) → is_some (kind_at o.first (take (suc m) scope ++ segment)) ≡ b
          → (find (decides o.first set.empty) (upward m scope segment) ≡ Some (take d scope ++ segment) → first_agreed o (upward m scope segment)
          ≡ Some (cond (o.sure (take d scope ++ segment) || not (further_up d)) (Some (take d scope ++ segment)) None))
          → cond (is_some (kind_at o.first (take (suc m) scope ++ segment))) (Some (take (suc m) scope ++ segment))
          (find (decides o.first set.empty) (upward m scope segment)) ≡ Some (take d scope ++ segment)
          → first_agreed o (upward (suc m) scope segment)
          ≡ Some (cond (o.sure (take d scope ++ segment) || not (further_up d)) (Some (take d scope ++ segment)) None)
      by true is rest found =
          let here = same_Some (take (suc m) scope ++ segment) (take d scope ++ segment)
          (sym (ap (λ b. cond b (Some (take (suc m) scope ++ segment)) (find (decides o.first set.empty) (upward m scope segment))) is) ∙ found) in
          let same : suc m ≡ d = one_depth scope segment (suc m) d within_m within_d here in
          ap (λ b. cond b (Some (cond (o.sure (take (suc m) scope ++ segment) || not (further_up (suc m))) (Some (take (suc m) scope ++ segment)) None))
          (first_agreed o (upward m scope segment))) is
          ∙ ap (λ e. Some (cond (o.sure (take e scope ++ segment) || not (further_up e)) (Some (take e scope ++ segment)) None)) same
      by false is rest found =
          ap (λ b. cond b (Some (cond (o.sure (take (suc m) scope ++ segment) || not (further_up (suc m))) (Some (take (suc m) scope ++ segment)) None))
          (first_agreed o (upward m scope segment))) is
          ∙ rest (sym (ap (λ b. cond b (Some (take (suc m) scope ++ segment)) (find (decides o.first set.empty) (upward m scope segment))) is) ∙ found)

  -- where no candidate has a kind none is the first that has one
  none_lead : (ps : List (List Seg)) → find (decides o.first set.empty) ps ≡ None → first_agreed o ps ≡ None
  none_lead [] none = refl
  none_lead (p ∷ ps) none = by (is_some (kind_at o.first p)) refl (none_lead ps)
      (sym (ap (λ b. cond b (Some p) (find (decides o.first set.empty) ps)) (decided p)) ∙ none)
    where
      by : (b : Bool) → is_some (kind_at o.first p) ≡ b
          → (find (decides o.first set.empty) ps ≡ None → first_agreed o ps ≡ None)
          → cond (is_some (kind_at o.first p)) (Some p) (find (decides o.first set.empty) ps) ≡ None
          → first_agreed o (p ∷ ps) ≡ None
      by true is rest none = absurd (false≢true (sym (ap is_some (sym (ap (λ b. cond b (Some p) (find (decides o.first set.empty) ps)) is) ∙ none))))
      by false is rest none = ap (λ b. cond b (Some (cond (o.sure p || not (is_some (find (is_known o.first) ps))) (Some p) None)) (first_agreed o ps)) is
          ∙ rest (sym (ap (λ b. cond b (Some p) (find (decides o.first set.empty) ps)) is) ∙ none)

  choice : (kind sure more : Bool) (p : List Seg) → kind ≡ true
      → cond (sure || not more) (Some p) None ≡ cond (kind && (not sure && more)) None (Some p)
  choice true true more p is = refl
  choice true false true p is = refl
  choice true false false p is = refl
  choice false sure more p is = absurd (false≢true is)

  pub led : (d : ℕ) → d ≤ length scope
      → first_of o.first set.empty (upward (length scope) scope segment) ≡ Some (take d scope ++ segment)
      → agreed_among o (upward (length scope) scope segment)
      ≡ cond (is_some (kind_at o.first (take d scope ++ segment)) && (not (o.sure (take d scope ++ segment)) && further_up d)) None
      (Some (take d scope ++ segment))
  led d within first = by (find (decides o.first set.empty) (upward (length scope) scope segment)) refl first
    where
      by : (found : Option (List Seg)) → find (decides o.first set.empty) (upward (length scope) scope segment) ≡ found
          → option_or found (find (is_outside o.first) (upward (length scope) scope segment)) ≡ Some (take d scope ++ segment)
          → agreed_among o (upward (length scope) scope segment)
          ≡ cond (is_some (kind_at o.first (take d scope ++ segment)) && (not (o.sure (take d scope ++ segment)) && further_up d)) None
          (Some (take d scope ++ segment))
      by (Some q) found first =
          let here = found ∙ first in
          ap (λ x. agreed_or x (find (is_outside o.first) (upward (length scope) scope segment))) (lead_at (length scope) d (omega arith) within here)
          ∙ choice (is_some (kind_at o.first (take d scope ++ segment))) (o.sure (take d scope ++ segment)) (further_up d) (take d scope ++ segment)
          (sym (decided (take d scope ++ segment))
          ∙ found_holds (decides o.first set.empty) (upward (length scope) scope segment) (take d scope ++ segment) here)
      by None found first =
          ap (λ x. agreed_or x (find (is_outside o.first) (upward (length scope) scope segment))) (none_lead (upward (length scope) scope segment) found)
          ∙ first
          ∙ sym (ap (λ b. cond (b && (not (o.sure (take d scope ++ segment)) && further_up d)) None (Some (take d scope ++ segment)))
          (sym (decided (take d scope ++ segment))
          ∙ not_found (decides o.first set.empty) (is_outside o.first) (upward (length scope) scope segment) (take d scope ++ segment) found first))

  pub led_nowhere : first_of o.first set.empty (upward (length scope) scope segment) ≡ None
      → agreed_among o (upward (length scope) scope segment) ≡ None
  led_nowhere first = by (find (decides o.first set.empty) (upward (length scope) scope segment)) refl first
    where
      by : (found : Option (List Seg)) → find (decides o.first set.empty) (upward (length scope) scope segment) ≡ found
          → option_or found (find (is_outside o.first) (upward (length scope) scope segment)) ≡ None
          → agreed_among o (upward (length scope) scope segment) ≡ None
      by (Some q) found first = absurd (false≢true (sym (ap is_some first)))
      by None found first =
          ap (λ x. agreed_or x (find (is_outside o.first) (upward (length scope) scope segment))) (none_lead (upward (length scope) scope segment) found)
          ∙ first

  -- a name that leads to one path, or to none
  pub one_led : (q : Option (List Seg))
      → first_of o.first set.empty (option_to_list q) ≡ agreed_among o (option_to_list q)
  one_led None = refl
  one_led (Some p) = ap (λ b. option_or (cond b (Some p) None) (cond (is_outside o.first p) (Some p) None)) (decided p)
      ∙ by (is_some (kind_at o.first p)) (o.sure p) (cond (is_outside o.first p) (Some p) None)
    where
      by : (kind sure : Bool) (outside : Option (List Seg)) → option_or (cond kind (Some p) None) outside
          ≡ agreed_or (cond kind (Some (cond (sure || true) (Some p) None)) None) outside
      by true true outside = refl
      by true false outside = refl
      by false sure outside = refl
