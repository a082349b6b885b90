-- Without code outside methods nothing changes (`stays_as_it_is`): each path has one kind or none, so that one count or
-- none is met.
use Rattle.std.specs.Prelude.{◌||◌, ◌&&◌, option_to_list, flat_map, MatchOption}
use Rattle.std.proofs.Common.{◌≡◌, ℕ, Bool, true, false, cond, List, [], ◌∷◌, ◌++◌, Option, Some, None, is_some, refl}
use Rattle.std.proofs.Common.{sym, ap, subst, ◌∙◌, not, IfSome}
use Rattle.std.proofs.lemmas.Bool.{false≢true}
use Rattle.std.specs.List.{find}
use Rattle.std.specs.Option.{option_or}
use Rattle.std.specs.FinSet as set
use Rattle.aml_names.specs.declared.segments.Seg.{Seg}
use Rattle.aml_names.specs.Paths.{PathSet}
use Rattle.aml_names.specs.Searching.{candidates}
use Rattle.aml_namespace.specs.Kinds.{Kind}
use Rattle.aml_namespace.specs.declared.kinds.Kind.TheVariants.{Method, Alias}
use Rattle.aml_namespace.specs.Predefined.{predefined}
use Rattle.aml_namespace.specs.Namespace.{Entry, declares, external, given, namespace_of, Namespace, declared_at}
use Rattle.aml_namespace.specs.Namespace.{same_path, outs_at, kind_at, decides, is_outside, first_count, target_count}
use Rattle.aml_namespace.specs.Namespace.{count_of_kind, count_at, arity_at, arity_of}
use Rattle.aml_namespace.specs.Runs.{outlook_of, surely_declared, is_alias, is_open_alias, open_among, open_in}
use Rattle.aml_namespace.specs.Runs.{kinds_at, sure_at, target_counts, counts_by, counts_of, counts_met, arity_met}
use Rattle.aml_namespace.specs.Runs.{agreed_arity, AreSure, StaysAsItIs}
use Rattle.aml_namespace.proofs.Said.{no_alias}

abbrev IsClosed : Kind → Type 0
IsClosed k = not (is_open_alias k) ≡ true

one_kind : (same sure : Bool) (k : Kind) (ks : List Kind) (o standing : Option Kind) → sure ≡ true
    → ks ≡ option_to_list (option_or o standing)
    → cond same (k ∷ cond sure [] ks) ks ≡ option_to_list (option_or (cond same (Some k) o) standing)
one_kind true sure k ks o standing is rest = ap (λ b. k ∷ cond b [] ks) is
one_kind false sure k ks o standing is rest = rest

one_sure : (same sure more : Bool) (k : Kind) (o : Option Kind) → sure ≡ true → more ≡ is_some o
    → ((same && sure) || more) ≡ is_some (cond same (Some k) o)
one_sure true sure more k o is rest = ap (λ b. b || more) is
one_sure false sure more k o is rest = rest

kinds_once : (es : List Entry) → AreSure es → (q : List Seg)
    → kinds_at es q ≡ option_to_list (kind_at (namespace_of es) q)
kinds_once [] strict q = refl
kinds_once (declares p k b sure ∷ es) strict q = one_kind (same_path q p) sure k (kinds_at es q) _ _ strict.0 (kinds_once es strict.2 q)
kinds_once (external p n ∷ es) strict q = kinds_once es strict q
kinds_once (given p n ∷ es) strict q = kinds_once es strict q

all_sure : (es : List Entry) → AreSure es → (q : List Seg) → surely_declared es q ≡ is_some (declared_at es q)
all_sure [] strict q = refl
all_sure (declares p k b sure ∷ es) strict q = one_sure (same_path q p) sure (surely_declared es q) k (declared_at es q) strict.0 (all_sure es strict.2 q)
all_sure (external p n ∷ es) strict q = all_sure es strict q
all_sure (given p n ∷ es) strict q = all_sure es strict q

-- no Alias is open
closed_more : (same : Bool) (k : Kind) (o standing : Option Kind) → not (is_open_alias k) ≡ true
    → IfSome (option_or o standing) IsClosed
    → IfSome (option_or (cond same (Some k) o) standing) IsClosed
closed_more true k o standing closed rest = closed
closed_more false k o standing closed rest = rest

closed_standing : (o : Option Kind) → IfSome o (λ k. is_alias k ≡ false) → IfSome o IsClosed
closed_standing None h = tt
closed_standing (Some (Alias is_open target)) h = absurd (false≢true (sym h))
closed_standing (Some k) h = refl

closed : (es : List Entry) → AreSure es → (q : List Seg) → IfSome (kind_at (namespace_of es) q) IsClosed
closed [] strict q = closed_standing (predefined q) (no_alias q)
closed (declares p k b sure ∷ es) strict q =
    closed_more (same_path q p) k (declared_at es q) (predefined q) strict.1 (closed es strict.2 q)
closed (external p n ∷ es) strict q = closed es strict q
closed (given p n ∷ es) strict q = closed es strict q

-- what is met is the count of what is found
abbrev IsMet : Namespace → PathSet → Option (List Seg) → List ℕ → Type 0
IsMet n locals found counts = MatchOption found (counts ≡ [])
    (λ p. (c : ℕ) × (counts ≡ c ∷ []) × (cond (set.contains locals p) (Some 0) (count_at n p) ≡ Some c))

module _ (es : List Entry) (strict : AreSure es) where
  kinds_same : (p : List Seg) → kinds_at es p ≡ option_to_list (kind_at (namespace_of es) p)
  kinds_same p = kinds_once es strict p

  sure_same : (p : List Seg) → sure_at es p ≡ is_some (kind_at (namespace_of es) p)
  sure_same p = ap (λ b. b || is_some (predefined p)) (all_sure es strict p) ∙ by (declared_at es p)
    where
      by : (o : Option Kind) → (is_some o || is_some (predefined p)) ≡ is_some (option_or o (predefined p))
      by None = refl
      by (Some k) = refl

  -- an Alias isn't open
  pub never_open : (p : List Seg) → open_in (outlook_of es) p ≡ false
  never_open p = ap open_among (kinds_same p)
      ∙ by (kind_at (namespace_of es) p) (closed es strict p)
    where
      one : (alias is_open : Bool) → not is_open ≡ true → ((alias && (false || is_open)) || false) ≡ false
      one true true h = absurd (false≢true h)
      one true false h = refl
      one false is_open h = refl

      by : (o : Option Kind) → IfSome o IsClosed
          → open_among (option_to_list o) ≡ false
      by None h = refl
      by (Some k) h = one (is_alias k) (is_open_alias k) h

  one_count : (k : Kind) (out : Option ℕ) → IsClosed k
      → (c : ℕ) × (counts_by (outlook_of es) k ≡ c ∷ []) × (count_of_kind (namespace_of es) (Some k) out ≡ Some c)
  one_count (Method args) out h = (args, refl, refl)
  one_count (Alias true target) out h = absurd (false≢true h)
  one_count (Alias false target) out h = (
    target_count (kind_at (namespace_of es) target) (outs_at es target),
    ap (λ ks. target_counts ks (outs_at es target)) (kinds_same target) ∙ by (kind_at (namespace_of es) target) (outs_at es target),
    refl,
  )
    where
      by : (o : Option Kind) (out : Option ℕ) → target_counts (option_to_list o) out ≡ target_count o out ∷ []
      by None out = refl
      by (Some (Method args)) out = refl
      by (Some _) out = refl
  one_count _ out h = (0, refl, refl)

  met_once : (locals : PathSet) (paths : List (List Seg))
      → IsMet (namespace_of es) locals (find (decides (namespace_of es) locals) paths)
      (counts_met (outlook_of es) locals paths)
  met_once locals [] = refl
  met_once locals (p ∷ paths) = by (set.contains locals p) refl (kind_at (namespace_of es) p) refl (met_once locals paths)
    where
      by : (local : Bool) → set.contains locals p ≡ local → (o : Option Kind) → kind_at (namespace_of es) p ≡ o
          → IsMet (namespace_of es) locals (find (decides (namespace_of es) locals) paths) (counts_met (outlook_of es) locals paths)
          → IsMet (namespace_of es) locals (cond (local || is_some o) (Some p) (find (decides (namespace_of es) locals) paths))
          (cond local (0 ∷ []) (cond (sure_at es p) (counts_of (outlook_of es) p) (counts_of (outlook_of es) p ++ counts_met (outlook_of es) locals paths)))
      by true is o at rest = (0, refl, ap (λ b. cond b (Some 0) (count_at (namespace_of es) p)) is)
      by false is (Some k) at rest = let c = one_count k (outs_at es p) (subst (λ o. IfSome o IsClosed) at (closed es strict p)) in (
        c.0,
        ap (λ b. cond b (counts_of (outlook_of es) p) (counts_of (outlook_of es) p ++ counts_met (outlook_of es) locals paths)) (sure_same p ∙ ap is_some at)
            ∙ ap (flat_map (counts_by (outlook_of es))) (kinds_same p ∙ ap option_to_list at) ∙ ap (λ ns. ns ++ []) c.1,
        ap (λ b. cond b (Some 0) (count_at (namespace_of es) p)) is ∙ ap (λ o. count_of_kind (namespace_of es) o (outs_at es p)) at ∙ c.2,
      )
      by false is None at rest = subst (IsMet (namespace_of es) locals (find (decides (namespace_of es) locals) paths))
          (sym (ap (λ b. cond b (counts_of (outlook_of es) p) (counts_of (outlook_of es) p ++ counts_met (outlook_of es) locals paths))
          (sure_same p ∙ ap is_some at)
          ∙ ap (λ ns. ns ++ counts_met (outlook_of es) locals paths) (ap (flat_map (counts_by (outlook_of es))) (kinds_same p ∙ ap option_to_list at)))) rest

pub stays_as_it_is : (es : List Entry) → AreSure es → StaysAsItIs es
stays_as_it_is es strict zero_too scope locals name =
    by (find (decides (namespace_of es) locals) (candidates scope name)) refl (met_once es strict locals (candidates scope name))
  where
    by : (found : Option (List Seg)) → find (decides (namespace_of es) locals) (candidates scope name) ≡ found
        → IsMet (namespace_of es) locals found (counts_met (outlook_of es) locals (candidates scope name))
        → agreed_arity (outlook_of es) zero_too scope locals name ≡ arity_of (namespace_of es) zero_too scope locals name
    by None at is = ap (λ ns. arity_met ns (first_count (namespace_of es).givens (candidates scope name)) (arity_of (namespace_of es) zero_too scope locals name)) is
    by (Some p) at is =
        ap (λ ns. arity_met ns (first_count (namespace_of es).givens (candidates scope name)) (arity_of (namespace_of es) zero_too scope locals name)) is.1
        ∙ sym is.2
        ∙ sym (ap (λ o. arity_at (namespace_of es) zero_too locals (candidates scope name)
        (option_or o (find (is_outside (namespace_of es)) (candidates scope name)))) at)
