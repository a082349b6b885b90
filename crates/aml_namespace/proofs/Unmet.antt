-- The kind that a search by the first declarations finds is the first of its path's kinds (`first_counts`). Where no
-- count is met, no path decides, and what an External says counts, or what the user gives (`agreed_unmet`).
use Rattle.std.specs.Prelude.{◌||◌, ◌==◌, option_to_list, flat_map, slice_get}
use Rattle.std.proofs.Common.{◌≡◌, ℕ, Bool, true, false, cond, List, [], ◌∷◌, ◌++◌, Option, Some, None, is_some}
use Rattle.std.proofs.Common.{refl, sym, ap, ◌∙◌}
use Rattle.std.proofs.lemmas.Bool.{false≢true}
use Rattle.std.specs.List.{find, AllByRecursion}
use Rattle.std.specs.Option.{option_or}
use Rattle.std.specs.FinSet as set
use Rattle.aml_names.specs.declared.segments.Seg.{Seg}
use Rattle.aml_names.specs.Paths.{PathSet}
use Rattle.aml_namespace.specs.Kinds.{Kind}
use Rattle.aml_namespace.specs.declared.kinds.Kind.TheVariants.{Method, Alias}
use Rattle.aml_namespace.specs.Predefined.{predefined}
use Rattle.aml_namespace.specs.declared.tallies.Counts.{Counts}
use Rattle.aml_namespace.specs.declared.tallies.Counts.TheVariants.{Nothing, One, Several}
use Rattle.aml_namespace.specs.Tallies.{joined, counts_in, is_nothing}
use Rattle.aml_namespace.specs.Searching.{agreed_at}
use Rattle.aml_namespace.specs.Namespace.{Entry, declares, external, given, same_path, kind_at, decides, is_outside}
use Rattle.aml_namespace.specs.Namespace.{namespace_of, first_count, count_of_kind, arity_at}
use Rattle.aml_namespace.specs.Runs.{Outlook, outlook_of, kinds_at, target_counts, counts_by, counts_met, FirstCounts}
use Rattle.aml_namespace.proofs.Agreeing.{unsure}
use Rattle.aml_namespace.proofs.Joined.{agreed_by}
use Rattle.aml_namespace.proofs.Leading.{whole_run}

first_more : (same sure : Bool) (k : Kind) (ks : List Kind) (o standing : Option Kind)
    → option_or o standing ≡ slice_get ks 0
    → option_or (cond same (Some k) o) standing ≡ slice_get (cond same (k ∷ cond sure [] ks) ks) 0
first_more true sure k ks o standing rest = refl
first_more false sure k ks o standing rest = rest

first_standing : (o : Option Kind) → o ≡ slice_get (option_to_list o) 0
first_standing None = refl
first_standing (Some k) = refl

first_kind : (es : List Entry) (q : List Seg) → kind_at (namespace_of es) q ≡ slice_get (kinds_at es q) 0
first_kind [] q = first_standing (predefined q)
first_kind (declares p k b sure ∷ es) q = first_more (same_path q p) sure k (kinds_at es q) _ _ (first_kind es q)
first_kind (external p n ∷ es) q = first_kind es q
first_kind (given p n ∷ es) q = first_kind es q

pub first_counts : (es : List Entry) → FirstCounts (outlook_of es)
first_counts es = record { first = first_kind es; unsure = unsure es _ (whole_run es) }

-- each kind has a count
no_empty : (n : ℕ) (ns : List ℕ) → n ∷ ns ≡ [] → ⊥
no_empty n ns h = false≢true (sym (ap (λ l. is_some (slice_get l 0)) h))

some_target : (ks : List Kind) (out : Option ℕ) (ns : List ℕ) → target_counts ks out ++ ns ≡ [] → ⊥
some_target [] out ns h = no_empty _ ns h
some_target (k ∷ ks) out ns h = no_empty _ _ h

some_count : (o : Outlook) (k : Kind) (ns : List ℕ) → counts_by o k ++ ns ≡ [] → ⊥
some_count o (Method args) ns h = no_empty args ns h
some_count o (Alias true target) ns h = no_empty 0 (1 ∷ ns) h
some_count o (Alias false target) ns h = some_target (o.kinds target) (o.first.outs target) ns h
some_count o k ns h = no_empty 0 ns h

none_in : (ns : List ℕ) → Nothing ≡ counts_in ns → ns ≡ []
none_in [] h = refl
none_in (n ∷ ns) h = absurd (false≢true (sym (ap is_nothing h ∙ one n (counts_in ns))))
  where
    one : (n : ℕ) (c : Counts) → is_nothing (joined (One n) c) ≡ false
    one n Nothing = refl
    one n (One m) = either (m == n)
      where
        either : (b : Bool) → is_nothing (cond b (One n) Several) ≡ false
        either true = refl
        either false = refl
    one n Several = refl

empty_front : (ms ns : List ℕ) → ms ++ ns ≡ [] → ms ≡ []
empty_front [] ns h = refl
empty_front (m ∷ ms) ns h = absurd (no_empty m (ms ++ ns) h)

module _ (o : Outlook) (is : FirstCounts o) (locals : PathSet) where
  abbrev IsClear : List Seg → Type 0
  IsClear p = (set.contains locals p ≡ false) × (kind_at o.first p ≡ None)

  no_kind : (ks : List Kind) → flat_map (counts_by o) ks ≡ [] → ks ≡ []
  no_kind [] h = refl
  no_kind (k ∷ ks) h = absurd (some_count o k (flat_map (counts_by o) ks) h)

  clear : (paths : List (List Seg)) → counts_met o locals paths ≡ [] → AllByRecursion IsClear paths
  clear [] h = tt
  clear (p ∷ paths) h = by (set.contains locals p) refl (o.sure p) refl h (clear paths)
    where
      kind : flat_map (counts_by o) (o.kinds p) ≡ [] → kind_at o.first p ≡ None
      kind none = is.first p ∙ ap (λ ks. slice_get ks 0) (no_kind (o.kinds p) none)

      by : (local : Bool) → set.contains locals p ≡ local → (sure : Bool) → o.sure p ≡ sure
          → cond local (0 ∷ []) (cond sure (flat_map (counts_by o) (o.kinds p)) (flat_map (counts_by o) (o.kinds p) ++ counts_met o locals paths)) ≡ []
          → (counts_met o locals paths ≡ [] → AllByRecursion IsClear paths) → AllByRecursion IsClear (p ∷ paths)
      by true here sure s h rest = absurd (no_empty 0 [] h)
      by false here true s h rest = absurd (false≢true (sym (is.unsure p (kind h)) ∙ s))
      by false here false s h rest =
          let none = empty_front (flat_map (counts_by o) (o.kinds p)) (counts_met o locals paths) h in
          ((here, kind none), rest (ap (λ ms. ms ++ counts_met o locals paths) (sym none) ∙ h))

  none_decides : (paths : List (List Seg)) → AllByRecursion IsClear paths → find (decides o.first locals) paths ≡ None
  none_decides [] all = refl
  none_decides (p ∷ paths) all =
      (λ i. cond (all.0.0 i || is_some (all.0.1 i)) (Some p) (find (decides o.first locals) paths)) ∙ none_decides paths all.1

  -- of the paths of a name the first that an External names has its count
  outside : (z : Bool) (whole paths : List (List Seg)) → AllByRecursion IsClear paths
      → arity_at o.first z locals whole (find (is_outside o.first) paths)
      ≡ option_or (first_count o.first.outs paths) (option_or (first_count o.first.givens whole) (cond z (Some 0) None))
  outside z whole [] all = refl
  outside z whole (p ∷ paths) all = by (o.first.outs p) refl (outside z whole paths all.1)
    where
      by : (out : Option ℕ) → o.first.outs p ≡ out
          → arity_at o.first z locals whole (find (is_outside o.first) paths)
          ≡ option_or (first_count o.first.outs paths) (option_or (first_count o.first.givens whole) (cond z (Some 0) None))
          → arity_at o.first z locals whole (cond (is_some out) (Some p) (find (is_outside o.first) paths))
          ≡ option_or (option_or out (first_count o.first.outs paths)) (option_or (first_count o.first.givens whole) (cond z (Some 0) None))
      by None here rest = rest
      by (Some n) here rest = λ i. cond (all.0.0 i) (Some 0) (count_of_kind o.first (all.0.1 i) (here i))

  pub agreed_unmet : (z : Bool) (paths : List (List Seg)) → Nothing ≡ counts_in (counts_met o locals paths)
      → agreed_at o z locals paths
      ≡ option_or (first_count o.first.outs paths) (option_or (first_count o.first.givens paths) (cond z (Some 0) None))
  agreed_unmet z paths nothing =
      let all = clear paths (none_in (counts_met o locals paths) nothing) in
      agreed_by o z locals paths Nothing nothing
      ∙ ap (λ found. arity_at o.first z locals paths (option_or found (find (is_outside o.first) paths))) (none_decides paths all)
      ∙ outside z paths paths all
