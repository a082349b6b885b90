-- What counts come to: those of two lists are joined (`counts_more`), and tell which count is chosen (`chosen_met`).
-- The tally of kinds, kind after kind (`tally_more`), is that of their counts where no Alias is among them
-- (`counts_plain`).
use Rattle.std.specs.Prelude.{◌==◌, ◌&&◌, ◌||◌, flat_map}
use Rattle.std.proofs.Common.{◌≡◌, ℕ, Bool, true, false, cond, List, [], ◌∷◌, ◌++◌, map, Option, Some, None, refl, sym}
use Rattle.std.proofs.Common.{ap, ◌∙◌, append_assoc}
use Rattle.std.proofs.lemmas.Bool.{false≢true}
use Rattle.std.proofs.lemmas.List.{append-nil, map-append}
use Rattle.std.proofs.lemmas.Map.Views.{exact_unsigned_eq}
use Rattle.std.specs.List.{list_all, list_any}
use Rattle.std.specs.Option.{option_or}
use Rattle.aml_namespace.specs.Kinds.{Kind}
use Rattle.aml_namespace.specs.declared.kinds.Kind.{Kind as KindOf}
use Rattle.aml_namespace.specs.declared.kinds.Kind.TheVariants.{Method, Alias}
use Rattle.aml_namespace.specs.declared.tallies.Counts.{Counts}
use Rattle.aml_namespace.specs.declared.tallies.Counts.TheVariants.{Nothing, One, Several}
use Rattle.aml_namespace.specs.declared.tallies.Tally.{Tally}
use Rattle.std.specs.FinSet as set
use Rattle.aml_names.specs.declared.segments.Seg.{Seg}
use Rattle.aml_names.specs.Paths.{PathSet}
use Rattle.aml_namespace.specs.Namespace.{target_count, first_count, arity_at, first_of}
use Rattle.aml_namespace.specs.Searching.{agreed_at}
use Rattle.aml_namespace.specs.Runs.{Outlook, counts_by, counts_of, counts_met, target_counts, arity_met}
use Rattle.aml_namespace.specs.Runs.{is_alias, opens_scope}
use Rattle.aml_namespace.specs.Tallies.{joined, counts_in, chosen, own_count, is_nothing, tally_of}

pub joined_nothing : (c : Counts) → joined c Nothing ≡ c
joined_nothing Nothing = refl
joined_nothing (One n) = refl
joined_nothing Several = refl

three : (n m l : ℕ) → joined (cond (m == n) (One n) Several) (One l) ≡ joined (One n) (cond (l == m) (One m) Several)
three n m l = by (m == n) refl (l == m) refl
  where
    by : (a : Bool) → (m == n) ≡ a → (b : Bool) → (l == m) ≡ b
        → joined (cond a (One n) Several) (One l) ≡ joined (One n) (cond b (One m) Several)
    by true is true at = ap (λ x. cond (x == n) (One n) Several) (exact_unsigned_eq l m at)
    by true is false at = ap (λ b. cond b (One n) Several) (ap (λ x. l == x) (sym (exact_unsigned_eq m n is)) ∙ at)
    by false is true at = sym (ap (λ b. cond b (One n) Several) is)
    by false is false at = refl

pub joined_more : (a b c : Counts) → joined (joined a b) c ≡ joined a (joined b c)
joined_more Nothing b c = refl
joined_more Several b c = refl
joined_more (One n) Nothing c = refl
joined_more (One n) Several c = refl
joined_more (One n) (One m) Nothing = joined_nothing (cond (m == n) (One n) Several)
joined_more (One n) (One m) (One l) = three n m l
joined_more (One n) (One m) Several = by (m == n)
  where
    by : (b : Bool) → joined (cond b (One n) Several) Several ≡ Several
    by true = refl
    by false = refl

-- the counts of two lists
pub counts_more : (ms ns : List ℕ) → counts_in (ms ++ ns) ≡ joined (counts_in ms) (counts_in ns)
counts_more [] ns = refl
counts_more (m ∷ ms) ns = ap (joined (One m)) (counts_more ms ns) ∙ sym (joined_more (One m) (counts_in ms) (counts_in ns))

-- ---- Which count is chosen.

-- whether all that was counted is this count
abbrev fits : ℕ → Counts → Bool
fits n Nothing = true
fits n (One m) = m == n
fits n Several = false

all_fit : (n : ℕ) (ms : List ℕ) → list_all (λ m. m == n) ms ≡ fits n (counts_in ms)
all_fit n [] = refl
all_fit n (m ∷ ms) = ap (λ b. (m == n) && b) (all_fit n ms) ∙ by (counts_in ms)
  where
    one : (l : ℕ) (b : Bool) → (l == m) ≡ b → ((m == n) && (l == n)) ≡ fits n (cond b (One m) Several)
    one l true is = ap (λ x. (m == n) && (x == n)) (exact_unsigned_eq l m is) ∙ twice (m == n)
      where
        twice : (b : Bool) → (b && b) ≡ b
        twice true = refl
        twice false = refl
    one l false is = by_first (m == n) refl (l == n) refl
      where
        by_first : (a : Bool) → (m == n) ≡ a → (b : Bool) → (l == n) ≡ b → (a && b) ≡ false
        by_first true here true there =
            absurd (false≢true (sym is ∙ ap (λ x. l == x) (exact_unsigned_eq m n here) ∙ there))
        by_first true here false there = refl
        by_first false here b there = refl

    by : (c : Counts) → ((m == n) && fits n c) ≡ fits n (joined (One m) c)
    by Nothing = and_true (m == n)
      where
        and_true : (b : Bool) → (b && true) ≡ b
        and_true true = refl
        and_true false = refl
    by (One l) = one l (l == m) refl
    by Several = and_false (m == n)
      where
        and_false : (b : Bool) → (b && false) ≡ false
        and_false true = refl
        and_false false = refl

pub chosen_met : (ns : List ℕ) (differ unmet : Option ℕ)
    → arity_met ns differ unmet ≡ chosen (counts_in ns) differ unmet
chosen_met [] differ unmet = refl
chosen_met (n ∷ ns) differ unmet = ap (λ b. option_or (cond b (Some n) None) differ) (all_fit n ns) ∙ by (counts_in ns)
  where
    by : (c : Counts) → option_or (cond (fits n c) (Some n) None) differ ≡ chosen (joined (One n) c) differ unmet
    by Nothing = refl
    by Several = refl
    by (One m) = same (m == n)
      where
        same : (b : Bool) → option_or (cond b (Some n) None) differ ≡ chosen (cond b (One n) Several) differ unmet
        same true = refl
        same false = refl

-- ---- The counts of kinds.

any_more : {T : Type 0} (f : KindOf T → Bool) (ks : List (KindOf T)) (k : KindOf T) → list_any f (ks ++ k ∷ []) ≡ (list_any f ks || f k)
any_more f [] k = by (f k)
  where
    by : (b : Bool) → (b || false) ≡ b
    by true = refl
    by false = refl
any_more f (l ∷ ks) k = ap (λ b. f l || b) (any_more f ks k) ∙ by (f l) (list_any f ks) (f k)
  where
    by : (a b c : Bool) → (a || (b || c)) ≡ ((a || b) || c)
    by true b c = refl
    by false b c = refl

all_more : {T : Type 0} (f : KindOf T → Bool) (ks : List (KindOf T)) (k : KindOf T) → list_all f (ks ++ k ∷ []) ≡ (list_all f ks && f k)
all_more f [] k = by (f k)
  where
    by : (b : Bool) → (b && true) ≡ b
    by true = refl
    by false = refl
all_more f (l ∷ ks) k = ap (λ b. f l && b) (all_more f ks k) ∙ by (f l) (list_all f ks) (f k)
  where
    by : (a b c : Bool) → (a && (b && c)) ≡ ((a && b) && c)
    by true b c = refl
    by false b c = refl

pub tally_more : {T : Type 0} (ks : List (KindOf T)) (k : KindOf T) (t : Tally) → t ≡ tally_of ks
    → tally_of (ks ++ k ∷ []) ≡ record {
      counts = joined t.counts (One (own_count k));
      aliased = t.aliased || is_alias k;
      scopes = t.scopes && opens_scope k;
    }
tally_more ks k t is = λ i. record {
  counts = (ap counts_in (map-append own_count ks (k ∷ [])) ∙ counts_more (map own_count ks) (own_count k ∷ [])
      ∙ ap (λ (u : Tally). joined u.counts (One (own_count k))) (sym is)) i;
  aliased = (any_more is_alias ks k ∙ ap (λ (u : Tally). u.aliased || is_alias k) (sym is)) i;
  scopes = (all_more opens_scope ks k ∙ ap (λ (u : Tally). u.scopes && opens_scope k) (sym is)) i;
}

own_target : (out : Option ℕ) (k : Kind) → target_count (Some k) out ≡ own_count k
own_target out (Method args) = refl
own_target out _ = refl

own_targets : (out : Option ℕ) (ks : List Kind) → map (λ l. target_count (Some l) out) ks ≡ map own_count ks
own_targets out [] = refl
own_targets out (k ∷ ks) = λ i. own_target out k i ∷ own_targets out ks i

-- what stands at a target is counted by its kinds, and without any by its Externals
pub targets : (ks : List Kind) (out : Option ℕ) (c : Counts) → c ≡ counts_in (map own_count ks)
    → counts_in (target_counts ks out) ≡ cond (is_nothing c) (One (target_count None out)) c
targets [] out c is = ap (λ c. cond (is_nothing c) (One (target_count None out)) c) (sym is)
targets (k ∷ ks) out c is = ap counts_in (own_targets out (k ∷ ks)) ∙ some (own_count k) (counts_in (map own_count ks))
    ∙ ap (λ c. cond (is_nothing c) (One (target_count None out)) c) (sym is)
  where
    some : (n : ℕ) (c : Counts)
        → joined (One n) c ≡ cond (is_nothing (joined (One n) c)) (One (target_count None out)) (joined (One n) c)
    some n Nothing = refl
    some n Several = refl
    some n (One m) = same (m == n)
      where
        same : (b : Bool)
            → cond b (One n) Several ≡ cond (is_nothing (cond b (One n) Several)) (One (target_count None out)) (cond b (One n) Several)
        same true = refl
        same false = refl

module _ (o : Outlook) where
  own_by : (k : Kind) → is_alias k ≡ false → counts_by o k ≡ own_count k ∷ []
  own_by (Method args) plain = refl
  own_by (Alias is_open target) plain = absurd (false≢true (sym plain))
  own_by _ plain = refl

  -- without an Alias the own counts are the counts
  pub counts_plain : (ks : List Kind) → list_any is_alias ks ≡ false → flat_map (counts_by o) ks ≡ map own_count ks
  counts_plain [] plain = refl
  counts_plain (k ∷ ks) plain = by (is_alias k) refl (counts_plain ks) plain
    where
      by : (b : Bool) → is_alias k ≡ b → (list_any is_alias ks ≡ false → flat_map (counts_by o) ks ≡ map own_count ks)
          → (b || list_any is_alias ks) ≡ false → flat_map (counts_by o) (k ∷ ks) ≡ map own_count (k ∷ ks)
      by true is rest h = absurd (false≢true (sym h))
      by false is rest h = λ i. own_by k is i ++ rest h i

module _ {A : Type 0} (f : A → List ℕ) where
  flat_append : (xs ys : List A) → flat_map f (xs ++ ys) ≡ flat_map f xs ++ flat_map f ys
  flat_append [] ys = refl
  flat_append (x ∷ xs) ys = ap (λ zs. f x ++ zs) (flat_append xs ys) ∙ sym (append_assoc (f x) (flat_map f xs) (flat_map f ys))

  pub counts_flat : (xs ys : List A)
      → counts_in (flat_map f (xs ++ ys)) ≡ joined (counts_in (flat_map f xs)) (counts_in (flat_map f ys))
  counts_flat xs ys = ap counts_in (flat_append xs ys) ∙ counts_more (flat_map f xs) (flat_map f ys)

  -- the declared kinds, and the predefined one behind them where none is sure
  pub counts_declared : (xs standing : List A) (sure : Bool) → counts_in (flat_map f (xs ++ cond sure [] standing))
      ≡ cond sure (counts_in (flat_map f xs)) (joined (counts_in (flat_map f xs)) (counts_in (flat_map f standing)))
  counts_declared xs standing true = ap (λ ys. counts_in (flat_map f ys)) (append-nil xs)
  counts_declared xs standing false = counts_flat xs standing

-- the same of the own counts
pub targets_declared : {T : Type 0} (xs standing : List (KindOf T)) (sure : Bool) → counts_in (map own_count (xs ++ cond sure [] standing))
    ≡ cond sure (counts_in (map own_count xs)) (joined (counts_in (map own_count xs)) (counts_in (map own_count standing)))
targets_declared xs standing true = ap (λ ys. counts_in (map own_count ys)) (append-nil xs)
targets_declared xs standing false = ap counts_in (map-append own_count xs standing) ∙ counts_more (map own_count xs) (map own_count standing)

-- the counts of one more of some kinds
pub counts_step : {A : Type 0} (f : A → List ℕ) (c : Counts) (x : A) (xs : List A)
    → joined c (counts_in (flat_map f (x ∷ xs))) ≡ joined (joined c (counts_in (f x))) (counts_in (flat_map f xs))
counts_step f c x xs = ap (joined c) (counts_more (f x) (flat_map f xs)) ∙ sym (joined_more c (counts_in (f x)) (counts_in (flat_map f xs)))

-- ---- The count of a name, by what its counts come to.

module _ (o : Outlook) (unknown_zero : Bool) (locals : PathSet) where
  pub agreed_by : (paths : List (List Seg)) (c : Counts) → c ≡ counts_in (counts_met o locals paths)
      → agreed_at o unknown_zero locals paths
      ≡ chosen c (first_count o.first.givens paths) (arity_at o.first unknown_zero locals paths (first_of o.first locals paths))
  agreed_by paths c is = chosen_met (counts_met o locals paths) _ _
      ∙ ap (λ x. chosen x (first_count o.first.givens paths) (arity_at o.first unknown_zero locals paths (first_of o.first locals paths))) (sym is)

  -- of a name that leads to one path
  pub placed_met : (p : List Seg) → set.contains locals p ≡ false
      → counts_in (counts_of o p) ≡ counts_in (counts_met o locals (p ∷ []))
  placed_met p other = sym (ap counts_in (ap (λ b. cond b (0 ∷ []) (cond (o.sure p) (counts_of o p) (counts_of o p ++ []))) other) ∙ by (o.sure p))
    where
      by : (sure : Bool) → counts_in (cond sure (counts_of o p) (counts_of o p ++ [])) ≡ counts_in (counts_of o p)
      by true = refl
      by false = ap counts_in (append-nil (counts_of o p))
