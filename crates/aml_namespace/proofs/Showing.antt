-- No more can be told (`each_is_met`, `runs_differ`): each kind of a path is its kind in a run that has nothing at all
-- other paths that may be missing (`shown`).
use Rattle.std.specs.Prelude.{◌||◌, ◌&&◌, ◌==◌, ◌≢◌, option_to_list, flat_map}
use Rattle.std.proofs.Common.{◌≡◌, ℕ, Bool, true, false, not, cond, List, [], ◌∷◌, ◌++◌, Option, Some, None, is_some}
use Rattle.std.proofs.Common.{refl, sym, ap, subst, ◌∙◌, arith, ◌⊎◌, inl, inr, is_eq, Ordering, Less, Equal, Greater}
use Rattle.std.proofs.lemmas.Bool.{false≢true}
use Rattle.std.proofs.lemmas.Bool.Decides.{nat_tests}
use Rattle.std.specs.List.{AllByRecursion, find, list_all}
use Rattle.std.specs.Option.{option_or}
use Rattle.std.specs.FinSet as set
use Rattle.aml_names.specs.declared.segments.Seg.{Seg}
use Rattle.aml_names.specs.Paths.{PathSet, path_cmp, exact_paths}
use Rattle.aml_names.specs.Searching.{candidates}
use Rattle.aml_namespace.specs.Kinds.{Kind}
use Rattle.aml_namespace.specs.declared.kinds.Kind.TheVariants.{Method, Alias}
use Rattle.aml_namespace.specs.Predefined.{predefined}
use Rattle.aml_namespace.specs.Namespace.{Entry, declares, external, given, namespace_of, declared_at, same_path}
use Rattle.aml_namespace.specs.Namespace.{outs_at, kind_at, decides, is_outside, count_of_kind, count_at, arity_at}
use Rattle.aml_namespace.specs.Runs.{outlook_of, surely_declared}
use Rattle.aml_namespace.specs.Runs.{kinds_at, sure_at, counts_by, counts_of, counts_met, common, IsRun, ended, taken}
use Rattle.aml_namespace.specs.Runs.{missed, least_run, IsNoAlias, MeetNoAlias, HasInRun, EachIsMet, RunsDiffer}
use Rattle.aml_namespace.proofs.Leading.{least_is_run}

every_weaker : {X : Type 0} (P Q : X → Type 0) → ((x : X) → P x → Q x) → (xs : List X) → AllByRecursion P xs
    → AllByRecursion Q xs
every_weaker P Q weaker [] all = tt
every_weaker P Q weaker (x ∷ xs) all = (weaker x all.0, every_weaker P Q weaker xs all.1)

every_join : {X : Type 0} (P : X → Type 0) (xs ys : List X) → AllByRecursion P xs → AllByRecursion P ys
    → AllByRecursion P (xs ++ ys)
every_join P [] ys front back = back
every_join P (x ∷ xs) ys front back = (front.0, every_join P xs ys front.1 back)

is_equal : (o : Ordering) → is_eq o ≡ true → o ≡ Equal
is_equal Less h = absurd (false≢true h)
is_equal Equal h = refl
is_equal Greater h = absurd (false≢true h)

pub same_is : (p q : List Seg) → same_path p q ≡ true → p ≡ q
same_is p q h = exact_paths p q (is_equal (path_cmp p q) h)

pub none_is : (o : Option Kind) → is_some o ≡ false → o ≡ None
none_is None h = refl
none_is (Some k) h = absurd (false≢true (sym h))

still_unsure : (same sure more standing : Bool) → (((same && sure) || more) || standing) ≡ false
    → (more || standing) ≡ false
still_unsure true true more standing h = absurd (false≢true (sym h))
still_unsure true false more standing h = h
still_unsure false sure more standing h = h

another : (same sure more standing : Bool) → sure ≡ true → (((same && sure) || more) || standing) ≡ false → same ≡ false
another true true more standing is h = absurd (false≢true (sym h))
another true false more standing is h = absurd (false≢true is)
another false sure more standing is h = refl

-- the least run has nothing at a path that isn't sure
least_none : (es : List Entry) (p : List Seg) → sure_at es p ≡ false → kind_at (namespace_of (least_run es)) p ≡ None
least_none [] p h = none_is (predefined p) h
least_none (declares q k b sure ∷ es) p h = by sure refl (least_none es p (still_unsure (same_path p q) sure (surely_declared es p) (is_some (predefined p)) h))
  where
    by : (s : Bool) → sure ≡ s → kind_at (namespace_of (least_run es)) p ≡ None
        → kind_at (namespace_of (cond (not s) (least_run es) (declares q k b sure ∷ least_run es))) p ≡ None
    by true is rest = ap (λ c. option_or (cond c (Some k) (declared_at (least_run es) p)) (predefined p))
        (another (same_path p q) sure (surely_declared es p) (is_some (predefined p)) is h) ∙ rest
    by false is rest = rest
least_none (external q n ∷ es) p h = least_none es p h
least_none (given q n ∷ es) p h = least_none es p h

-- in a run a path has this kind, and no other path has one that isn't sure
abbrev IsShown : List Entry → List Seg → Kind → Type 0
IsShown es q k = (rs : List Entry) × IsRun es rs × (kind_at (namespace_of rs) q ≡ Some k)
    × ((p : List Seg) → same_path p q ≡ false → sure_at es p ≡ false → kind_at (namespace_of rs) p ≡ None)

shown : (es : List Entry) (q : List Seg) → AllByRecursion (IsShown es q) (kinds_at es q)
shown [] q = by (predefined q) refl
  where
    by : (o : Option Kind) → predefined q ≡ o → AllByRecursion (IsShown [] q) (option_to_list o)
    by None is = tt
    by (Some k) is = (([], ended, is, λ p other unsure. none_is (predefined p) unsure), tt)
shown (declares p k b sure ∷ es) q = by (same_path q p) refl sure refl (shown es q)
  where
    still : (r : List Seg) → sure_at (declares p k b sure ∷ es) r ≡ false → sure_at es r ≡ false
    still r h = still_unsure (same_path r p) sure (surely_declared es r) (is_some (predefined r)) h

    off : (rs : List Entry) (r : List Seg) → same_path r p ≡ false
        → kind_at (namespace_of (declares p k b sure ∷ rs)) r ≡ kind_at (namespace_of rs) r
    off rs r other = ap (λ c. option_or (cond c (Some k) (declared_at rs r)) (predefined r)) other

    here : same_path q p ≡ true → IsShown (declares p k b sure ∷ es) q k
    here same = (
      declares p k b sure ∷ least_run es,
      taken (declares p k b sure) (least_is_run es),
      ap (λ c. option_or (cond c (Some k) (declared_at (least_run es) q)) (predefined q)) same,
      λ r other unsure. off (least_run es) r (subst (λ x. same_path r x ≡ false) (same_is q p same) other) ∙ least_none es r (still r unsure),
    )

    without : not sure ≡ true → (l : Kind) → IsShown es q l → IsShown (declares p k b sure ∷ es) q l
    without may l w = (w.0, missed (declares p k b sure) may w.1, w.2, λ r other unsure. w.3 r other (still r unsure))

    by : (same : Bool) → same_path q p ≡ same → (s : Bool) → sure ≡ s → AllByRecursion (IsShown es q) (kinds_at es q)
        → AllByRecursion (IsShown (declares p k b sure ∷ es) q) (cond same (k ∷ cond s [] (kinds_at es q)) (kinds_at es q))
    by true same true is rest = (here same, tt)
    by true same false is rest = (here same, every_weaker _ _ (without (ap not is)) (kinds_at es q) rest)
    by false same true is rest = every_weaker (IsShown es q) (IsShown (declares p k b sure ∷ es) q)
        (λ l w. (
          declares p k b sure ∷ w.0,
          taken (declares p k b sure) w.1,
          off w.0 q same ∙ w.2,
          λ r other unsure. off w.0 r (another (same_path r p) sure (surely_declared es r) (is_some (predefined r)) is unsure) ∙ w.3 r other (still r unsure),
        ))
        (kinds_at es q) rest
    by false same false is rest = every_weaker _ _ (without (ap not is)) (kinds_at es q) rest
shown (external p n ∷ es) q = every_weaker (IsShown es q) (IsShown (external p n ∷ es) q)
    (λ k w. (w.0, missed (external p n) refl w.1, w.2, w.3)) (kinds_at es q) (shown es q)
shown (given p n ∷ es) q = every_weaker (IsShown es q) (IsShown (given p n ∷ es) q)
    (λ k w. (w.0, missed (given p n) refl w.1, w.2, w.3)) (kinds_at es q) (shown es q)

module _ (es : List Entry) (locals : PathSet) where
  -- in a run the search leads to a path with this count
  abbrev IsFound : List (List Seg) → ℕ → Type 0
  IsFound paths n = (rs : List Entry) × IsRun es rs × (q : List Seg) × (find (decides (namespace_of rs) locals) paths ≡ Some q)
      × (cond (set.contains locals q) (Some 0) (count_at (namespace_of rs) q) ≡ Some n)
      × ((p : List Seg) → same_path p q ≡ false → sure_at es p ≡ false → kind_at (namespace_of rs) p ≡ None)

  found_here : (q : List Seg) (paths : List (List Seg)) → set.contains locals q ≡ false → (k : Kind) (n : ℕ)
      → ((rs : List Entry) → count_of_kind (namespace_of rs) (Some k) (outs_at rs q) ≡ Some n) → IsShown es q k
      → IsFound (q ∷ paths) n
  found_here q paths other k n counts w = (
    w.0,
    w.1,
    q,
    (λ i. cond (other i || is_some (w.2 i)) (Some q) (find (decides (namespace_of w.0) locals) paths)),
    (λ i. cond (other i) (Some 0) (count_of_kind (namespace_of w.0) (w.2 i) (outs_at w.0 q))) ∙ counts w.0,
    w.3,
  )

  counts_found : (q : List Seg) (paths : List (List Seg)) → set.contains locals q ≡ false → (ks : List Kind)
      → AllByRecursion (IsShown es q) ks
      → AllByRecursion IsNoAlias ks → AllByRecursion (IsFound (q ∷ paths)) (flat_map (counts_by (outlook_of es)) ks)
  counts_found q paths other [] all none = tt
  counts_found q paths other (Method n ∷ ks) all none =
      (found_here q paths other (Method n) n (λ rs. refl) all.0, counts_found q paths other ks all.1 none.1)
  counts_found q paths other (Alias is_open target ∷ ks) all none = absurd none.0
  counts_found q paths other (k ∷ ks) all none =
      (found_here q paths other k 0 (λ rs. refl) all.0, counts_found q paths other ks all.1 none.1)

  -- a path in front that isn't sure is missing there, or is the very one
  found_above : (q : List Seg) (paths : List (List Seg)) → set.contains locals q ≡ false → sure_at es q ≡ false
      → (n : ℕ) → IsFound paths n
      → IsFound (q ∷ paths) n
  found_above q paths other unsure n w = (w.0, w.1, w.2, by (same_path q w.2) refl (kind_at (namespace_of w.0) q) refl, w.4, w.5)
    where
      by : (same : Bool) → same_path q w.2 ≡ same → (o : Option Kind) → kind_at (namespace_of w.0) q ≡ o
          → cond (set.contains locals q || is_some (kind_at (namespace_of w.0) q)) (Some q) (find (decides (namespace_of w.0) locals) paths) ≡ Some w.2
      by same is None at = (λ i. cond (other i || is_some (at i)) (Some q) (find (decides (namespace_of w.0) locals) paths)) ∙ w.3
      by true is (Some k) at = (λ i. cond (other i || is_some (at i)) (Some q) (find (decides (namespace_of w.0) locals) paths)) ∙ ap Some (same_is q w.2 is)
      by false is (Some k) at = absurd (false≢true (ap is_some (sym (w.5 q is unsure) ∙ at)))

  met_found : (paths : List (List Seg)) → MeetNoAlias (outlook_of es) locals paths
      → AllByRecursion (IsFound paths) (counts_met (outlook_of es) locals paths)
  met_found [] none = tt
  met_found (q ∷ paths) none = by (set.contains locals q) refl (sure_at es q) refl (met_found paths) none
    where
      by : (local : Bool) → set.contains locals q ≡ local → (sure : Bool) → sure_at es q ≡ sure
          → (MeetNoAlias (outlook_of es) locals paths → AllByRecursion (IsFound paths) (counts_met (outlook_of es) locals paths))
          → (local ≡ true) ⊎ (AllByRecursion IsNoAlias (kinds_at es q) × ((sure ≡ true) ⊎ MeetNoAlias (outlook_of es) locals paths))
          → AllByRecursion (IsFound (q ∷ paths))
          (cond local (0 ∷ []) (cond sure (counts_of (outlook_of es) q) (counts_of (outlook_of es) q ++ counts_met (outlook_of es) locals paths)))
      by true is sure at rest none = (
        (
          least_run es,
          least_is_run es,
          q,
          ap (λ b. cond (b || is_some (kind_at (namespace_of (least_run es)) q)) (Some q) (find (decides (namespace_of (least_run es)) locals) paths)) is,
          ap (λ b. cond b (Some 0) (count_at (namespace_of (least_run es)) q)) is,
          λ p other unsure. least_none es p unsure,
        ),
        tt,
      )
      by false is sure at rest (inl here) = absurd (false≢true here)
      by false is true at rest (inr none) = counts_found q paths is (kinds_at es q) (shown es q) none.0
      by false is false at rest (inr (none, inl here)) = absurd (false≢true here)
      by false is false at rest (inr (none, inr more)) = every_join (IsFound (q ∷ paths)) (counts_of (outlook_of es) q) (counts_met (outlook_of es) locals paths)
          (counts_found q paths is (kinds_at es q) (shown es q) none)
          (every_weaker (IsFound paths) (IsFound (q ∷ paths)) (found_above q paths is at) (counts_met (outlook_of es) locals paths) (rest more))

pub each_is_met : (es : List Entry) → EachIsMet es
each_is_met es zero_too scope locals name none = every_weaker (IsFound es locals (candidates scope name)) (HasInRun es zero_too scope locals name)
    (λ n w. (
      w.0,
      w.1,
      ap (λ o. arity_at (namespace_of w.0) zero_too locals (candidates scope name)
          (option_or o (find (is_outside (namespace_of w.0)) (candidates scope name)))) w.3 ∙ w.4,
    ))
    (counts_met (outlook_of es) locals (candidates scope name)) (met_found es locals (candidates scope name) none)

apart : (P : ℕ → Type 0) (n : ℕ) (ns : List ℕ) → list_all (λ m. m == n) ns ≡ false → AllByRecursion P ns
    → (m : ℕ) × (n ≢ m) × P m
apart P n [] h all = absurd (false≢true (sym h))
apart P n (m ∷ ns) h all = by (m == n) refl (apart P n ns) h
  where
    by : (b : Bool) → (m == n) ≡ b → (list_all (λ m. m == n) ns ≡ false → AllByRecursion P ns → (m : ℕ) × (n ≢ m) × P m)
        → (b && list_all (λ m. m == n) ns) ≡ false
        → (m : ℕ) × (n ≢ m) × P m
    by true is rest h = rest h all.1
    by false is rest h = (m, (λ e. grind (arith, nat_tests)), all.0)

pub runs_differ : (es : List Entry) → RunsDiffer es
runs_differ es zero_too scope locals name none some differ =
    by (counts_met (outlook_of es) locals (candidates scope name)) (each_is_met es zero_too scope locals name none) some differ
  where
    by : (ns : List ℕ) → AllByRecursion (HasInRun es zero_too scope locals name) ns → ns ≢ [] → common ns ≡ None
        → (a b : ℕ) × (a ≢ b) × HasInRun es zero_too scope locals name a × HasInRun es zero_too scope locals name b
    by [] all some differ = absurd (some refl)
    by (n ∷ ns) all some differ =
        let r = apart (HasInRun es zero_too scope locals name) n ns (not_all (list_all (λ m. m == n) ns) differ) all.1 in
        (n, r.0, r.1, all.0, r.2)
      where
        not_all : (b : Bool) → cond b (Some n) None ≡ None → b ≡ false
        not_all true h = absurd (false≢true (sym (ap is_some h)))
        not_all false h = refl
