-- Which path a Scope opens, or an Alias names (`every_run_leads_there`): what has a kind in a run has one among all
-- entries (`no_more`), so that a run in which a path is missing leads to none of the later ones, of which none is
-- known. And that there are runs (`whole_run`, `least_is_run`).
use Rattle.std.specs.Prelude.{◌||◌, option_to_list}
use Rattle.std.proofs.Common.{◌≡◌, Bool, true, false, not, cond, List, [], ◌∷◌, Option, Some, None, IfSome, is_some}
use Rattle.std.proofs.Common.{refl, sym, ap, subst, ◌∙◌}
use Rattle.std.proofs.lemmas.Bool.{false≢true}
use Rattle.std.proofs.lemmas.Option.{cond_some, same_Some}
use Rattle.std.specs.List.{AllByRecursion, find}
use Rattle.std.specs.Option.{option_or}
use Rattle.aml_names.specs.declared.segments.Seg.{Seg}
use Rattle.aml_names.specs.Searching.{candidates}
use Rattle.aml_namespace.specs.Kinds.{Kind}
use Rattle.aml_namespace.specs.Predefined.{predefined}
use Rattle.aml_namespace.specs.Namespace.{Entry, declares, external, given}
use Rattle.aml_namespace.specs.Namespace.{namespace_of, same_path, kind_at, is_outside}
use Rattle.aml_namespace.specs.Runs.{outlook_of, kinds_at, sure_at, is_known, first_agreed, agreed_or, may_miss, IsRun}
use Rattle.aml_namespace.specs.Runs.{ended, taken, missed, least_run, means, EveryRunLeadsThere}
use Rattle.aml_namespace.proofs.Agreeing.{among, unsure}

pub whole_run : (es : List Entry) → IsRun es es
whole_run [] = ended
whole_run (e ∷ es) = taken e (whole_run es)

pub least_is_run : (es : List Entry) → IsRun es (least_run es)
least_is_run [] = ended
least_is_run (e ∷ es) = by (may_miss e) refl (least_is_run es)
  where
    by : (may : Bool) → may_miss e ≡ may → IsRun es (least_run es)
        → IsRun (e ∷ es) (cond may (least_run es) (e ∷ least_run es))
    by true is run = missed e is run
    by false is run = taken e run

-- ---- What has no kind among all entries has none in a run.

none_more : (same sure : Bool) (k : Kind) (ks : List Kind) (o standing : Option Kind)
    → (is_some (option_or o standing) ≡ false → ks ≡ [])
    → is_some (option_or (cond same (Some k) o) standing) ≡ false → cond same (k ∷ cond sure [] ks) ks ≡ []
none_more true sure k ks o standing rest h = absurd (false≢true (sym h))
none_more false sure k ks o standing rest h = rest h

none_standing : (o : Option Kind) → is_some o ≡ false → option_to_list o ≡ []
none_standing None h = refl
none_standing (Some k) h = absurd (false≢true (sym h))

pub no_kinds : (es : List Entry) (p : List Seg) → is_some (kind_at (namespace_of es) p) ≡ false → kinds_at es p ≡ []
no_kinds [] q h = none_standing (predefined q) h
no_kinds (declares p k b sure ∷ es) q h = none_more (same_path q p) sure k (kinds_at es q) _ _ (no_kinds es q) h
no_kinds (external p n ∷ es) q h = no_kinds es q h
no_kinds (given p n ∷ es) q h = no_kinds es q h

-- a weaker test finds nothing where a stronger one doesn't
pub none_found : (f g : List Seg → Bool) → ((p : List Seg) → f p ≡ false → g p ≡ false) → (paths : List (List Seg))
    → is_some (find f paths) ≡ false
    → find g paths ≡ None
none_found f g weaker [] h = refl
none_found f g weaker (p ∷ paths) h = by (f p) refl (none_found f g weaker paths) h
  where
    by : (b : Bool) → f p ≡ b → (is_some (find f paths) ≡ false → find g paths ≡ None)
        → is_some (cond b (Some p) (find f paths)) ≡ false
        → cond (g p) (Some p) (find g paths) ≡ None
    by true is rest h = absurd (false≢true (sym h))
    by false is rest h = ap (λ c. cond c (Some p) (find g paths)) (weaker p is) ∙ rest h

module _ (es : List Entry) (rs : List Entry) (run : IsRun es rs) where
  pub no_more : (p : List Seg) → is_some (kind_at (namespace_of es) p) ≡ false
      → is_some (kind_at (namespace_of rs) p) ≡ false
  no_more p h = by (kind_at (namespace_of rs) p) (among es rs run p (λ _. ⊥) (λ t u h. h) (subst (AllByRecursion (λ _. ⊥)) (sym (no_kinds es p h)) tt))
    where
      by : (o : Option Kind) → IfSome o (λ _. ⊥) → is_some o ≡ false
      by None none = refl
      by (Some k) none = absurd none

  unknown : (p : List Seg) → is_known (namespace_of es) p ≡ false → is_some (kind_at (namespace_of rs) p) ≡ false
  unknown p h = no_more p (by (is_some (kind_at (namespace_of es) p)) h)
    where
      by : (b : Bool) → (b || is_outside (namespace_of es) p) ≡ false → b ≡ false
      by true h = h
      by false h = refl

  missing : (p : List Seg) → is_some (kind_at (namespace_of rs) p) ≡ false → sure_at es p ≡ false
  missing p h = unsure es rs run p (by (kind_at (namespace_of rs) p) h)
    where
      by : (o : Option Kind) → is_some o ≡ false → o ≡ None
      by None h = refl
      by (Some k) h = absurd (false≢true (sym h))

  -- where no path may have a kind none has one
  none_first : (paths : List (List Seg)) → first_agreed (outlook_of es) paths ≡ None
      → find (λ q. is_some (kind_at (namespace_of rs) q)) paths ≡ None
  none_first [] h = refl
  none_first (p ∷ paths) h = by (is_some (kind_at (namespace_of es) p)) refl _ (none_first paths) h
    where
      by : (b : Bool) → is_some (kind_at (namespace_of es) p) ≡ b → (o : Option (List Seg))
          → (first_agreed (outlook_of es) paths ≡ None → find (λ q. is_some (kind_at (namespace_of rs) q)) paths ≡ None)
          → cond b (Some o) (first_agreed (outlook_of es) paths) ≡ None
          → cond (is_some (kind_at (namespace_of rs) p)) (Some p) (find (λ q. is_some (kind_at (namespace_of rs) q)) paths) ≡ None
      by true is o rest h = absurd (false≢true (sym (ap is_some h)))
      by false is o rest h = ap (λ c. cond c (Some p) (find (λ q. is_some (kind_at (namespace_of rs) q)) paths)) (no_more p is) ∙ rest h

  at_first : (paths : List (List Seg)) (p : List Seg) → first_agreed (outlook_of es) paths ≡ Some (Some p)
      → IfSome (find (λ q. is_some (kind_at (namespace_of rs) q)) paths) (λ q. q ≡ p)
  at_first [] p h = tt
  at_first (q ∷ paths) p h = by (is_some (kind_at (namespace_of es) q)) refl (at_first paths p) h
    where
      here : (b : Bool) → is_some (kind_at (namespace_of rs) q) ≡ b
          → (sure_at es q || not (is_some (find (is_known (namespace_of es)) paths))) ≡ true → q ≡ p
          → IfSome (cond b (Some q) (find (λ r. is_some (kind_at (namespace_of rs) r)) paths)) (λ r. r ≡ p)
      here true at passes same = same
      here false at passes same = subst (λ o. IfSome o (λ r. r ≡ p))
          (sym (none_found (is_known (namespace_of es)) _ unknown paths
          (nothing_later (is_some (find (is_known (namespace_of es)) paths))
          (sym (ap (λ b. b || not (is_some (find (is_known (namespace_of es)) paths))) (missing q at)) ∙ passes))))
          tt
        where
          nothing_later : (b : Bool) → not b ≡ true → b ≡ false
          nothing_later true h = absurd (false≢true h)
          nothing_later false h = refl

      by : (b : Bool) → is_some (kind_at (namespace_of es) q) ≡ b
          → (first_agreed (outlook_of es) paths ≡ Some (Some p) → IfSome (find (λ q. is_some (kind_at (namespace_of rs) q)) paths) (λ q. q ≡ p))
          → cond b (Some (cond (sure_at es q || not (is_some (find (is_known (namespace_of es)) paths))) (Some q) None))
          (first_agreed (outlook_of es) paths) ≡ Some (Some p)
          → IfSome (cond (is_some (kind_at (namespace_of rs) q)) (Some q) (find (λ r. is_some (kind_at (namespace_of rs) r)) paths)) (λ r. r ≡ p)
      by true is rest h = let r = cond_some (sure_at es q || not (is_some (find (is_known (namespace_of es)) paths))) q p (same_Some _ _ h) in
          here (is_some (kind_at (namespace_of rs) q)) refl r.0 r.1
      by false is rest h = subst (λ b. IfSome (cond b (Some q) (find (λ r. is_some (kind_at (namespace_of rs) r)) paths)) (λ r. r ≡ p))
          (sym (no_more q is)) (rest h)

pub every_run_leads_there : (es : List Entry) → EveryRunLeadsThere es
every_run_leads_there es rs run scope name p h = by (first_agreed (outlook_of es) (candidates scope name)) refl h
  where
    by : (o : Option (Option (List Seg))) → first_agreed (outlook_of es) (candidates scope name) ≡ o
        → agreed_or o (find (is_outside (namespace_of es)) (candidates scope name)) ≡ Some p
        → IfSome (means (namespace_of rs) scope name) (λ q. q ≡ p)
    by None is h = subst (λ o. IfSome o (λ q. q ≡ p)) (sym (none_first es rs run (candidates scope name) is)) tt
    by (Some o) is h = at_first es rs run (candidates scope name) p (is ∙ ap Some h)
