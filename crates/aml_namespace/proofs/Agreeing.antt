-- Every run agrees on the count of a name where the kinds that it may mean agree (`every_run_agrees`): the kind of a
-- path in a run is one of the path's kinds (`among`), and so its count is one of those that are met (`count_met`).
use Rattle.std.specs.Prelude.{◌||◌, ◌&&◌, ◌==◌, flat_map, option_to_list}
use Rattle.std.proofs.Common.{◌≡◌, ℕ, Bool, true, false, not, cond, List, [], ◌∷◌, ◌++◌, map, Option, Some, None}
use Rattle.std.proofs.Common.{IfSome, IsSomeAnd, is_some, refl, sym, ap, subst, ◌∙◌, arith}
use Rattle.std.proofs.lemmas.Bool.{false≢true}
use Rattle.std.proofs.lemmas.Bool.Decides.{nat_tests}
use Rattle.std.proofs.lemmas.Option.{cond_some}
use Rattle.std.specs.List.{AllByRecursion, find, list_all}
use Rattle.std.specs.Option.{option_or}
use Rattle.std.specs.FinSet as set
use Rattle.aml_names.specs.declared.segments.Seg.{Seg}
use Rattle.aml_names.specs.Paths.{PathSet}
use Rattle.aml_names.specs.Searching.{candidates}
use Rattle.aml_namespace.specs.Kinds.{Kind}
use Rattle.aml_namespace.specs.declared.kinds.Kind.TheVariants.{Method, Alias}
use Rattle.aml_namespace.specs.Predefined.{predefined}
use Rattle.aml_namespace.specs.Namespace.{Entry, declares, external, given}
use Rattle.aml_namespace.specs.Namespace.{namespace_of, declared_at, same_path, outs_at, kind_at, decides}
use Rattle.aml_namespace.specs.Namespace.{target_count, count_of_kind, count_at, arity_at, arity_of, is_outside}
use Rattle.aml_namespace.specs.Runs.{outlook_of, surely_declared, kinds_at, sure_at, target_counts, counts_by}
use Rattle.aml_namespace.specs.Runs.{counts_of, counts_met, common, arity_by_kinds, arity_met, agreed_arity, IsRun}
use Rattle.aml_namespace.specs.Runs.{ended, taken, missed, aimed, leads, stands, EveryRunAgrees}

-- ---- Lists of which each element is something.

module _ {X : Type 0} (P : X → Type 0) where
  every_append : (xs ys : List X) → AllByRecursion P (xs ++ ys) → AllByRecursion P xs × AllByRecursion P ys
  every_append [] ys all = (tt, all)
  every_append (x ∷ xs) ys all = let r = every_append xs ys all.1 in ((all.0, r.0), r.1)

  every_flat : {A : Type 0} (f : A → List X) (ys : List A) → AllByRecursion P (flat_map f ys)
      → AllByRecursion (λ a. AllByRecursion P (f a)) ys
  every_flat f [] all = tt
  every_flat f (a ∷ ys) all = let r = every_append (f a) (flat_map f ys) all in (r.0, every_flat f ys r.1)

  every_map : {A : Type 0} (f : A → X) (ys : List A) → AllByRecursion P (map f ys) → AllByRecursion (λ a. P (f a)) ys
  every_map f [] all = tt
  every_map f (a ∷ ys) all = (all.0, every_map f ys all.1)

both : (a b : Bool) → (a && b) ≡ true → (a ≡ true) × (b ≡ true)
both true b h = (refl, h)
both false b h = absurd (false≢true h)

copies : (n : ℕ) (ns : List ℕ) → list_all (λ m. m == n) ns ≡ true → AllByRecursion (λ m. m ≡ n) ns
copies n [] h = tt
copies n (m ∷ ns) h = let r = both (m == n) _ h in let same = r.0 in (grind (arith, nat_tests), copies n ns r.1)

pub common_all : (ns : List ℕ) (n : ℕ) → common ns ≡ Some n → AllByRecursion (λ m. m ≡ n) ns
common_all [] n h = tt
common_all (m ∷ ns) n h = let r = cond_some (list_all (λ l. l == m) ns) m n h in
    (r.1, subst (λ l. AllByRecursion (λ k. k ≡ l) ns) r.1 (copies m ns r.0))

-- ---- What stands in a run.

one_more : (P : Kind → Type 0) (same sure : Bool) (k l : Kind) (ks : List Kind) (o standing : Option Kind)
    → (P k → P l) → (AllByRecursion P ks → IfSome (option_or o standing) P)
    → AllByRecursion P (cond same (k ∷ cond sure [] ks) ks) → IfSome (option_or (cond same (Some l) o) standing) P
one_more P true sure k l ks o standing turns rest all = turns all.0
one_more P false sure k l ks o standing turns rest all = rest all

but_one : (P : Kind → Type 0) (same sure : Bool) (k : Kind) (ks : List Kind) → not sure ≡ true
    → AllByRecursion P (cond same (k ∷ cond sure [] ks) ks)
    → AllByRecursion P ks
but_one P same true k ks may all = absurd (false≢true may)
but_one P true false k ks may all = all.1
but_one P false false k ks may all = all

standing_alone : (P : Kind → Type 0) (o : Option Kind) → AllByRecursion P (option_to_list o) → IfSome o P
standing_alone P None all = tt
standing_alone P (Some k) all = all.0

-- what holds of an open Alias holds of it with any target
abbrev pub Turns : (Kind → Type 0) → Type 0
Turns P = (target other : List Seg) → P (Alias true target) → P (Alias false other)

-- the kind of a path in a run is one of the path's kinds, an open Alias with any target
kind_among : {es : List Entry} {rs : List Entry} → IsRun es rs → (q : List Seg) (P : Kind → Type 0) → Turns P
    → AllByRecursion P (kinds_at es q)
    → IfSome (kind_at (namespace_of rs) q) P
kind_among ended q P turns all = standing_alone P (predefined q) all
kind_among (taken (declares p k b sure) run) q P turns all =
    one_more P (same_path q p) sure k k _ _ _ (λ h. h) (kind_among run q P turns) all
kind_among (taken (external p n) run) q P turns all = kind_among run q P turns all
kind_among (taken (given p n) run) q P turns all = kind_among run q P turns all
kind_among (missed (declares p k b sure) may run) q P turns all =
    kind_among run q P turns (but_one P (same_path q p) sure k _ may all)
kind_among (missed (external p n) may run) q P turns all = kind_among run q P turns all
kind_among (missed (given p n) may run) q P turns all = kind_among run q P turns all
kind_among (aimed p target other b sure run) q P turns all =
    one_more P (same_path q p) sure (Alias true target) (Alias false other) _ _ _ (turns target other)
    (kind_among run q P turns) all

-- a sure path is declared in each run
sure_here : (same sure more : Bool) (k : Kind) (o : Option Kind) → (more ≡ true → is_some o ≡ true)
    → ((same && sure) || more) ≡ true
    → is_some (cond same (Some k) o) ≡ true
sure_here true sure more k o rest h = refl
sure_here false sure more k o rest h = rest h

pub sure_declared : {es : List Entry} {rs : List Entry} → IsRun es rs → (q : List Seg) → surely_declared es q ≡ true
    → is_some (declared_at rs q) ≡ true
sure_declared ended q h = absurd (false≢true h)
sure_declared (taken (declares p k b sure) run) q h = sure_here (same_path q p) sure _ k _ (sure_declared run q) h
sure_declared (aimed p target other b sure run) q h =
    sure_here (same_path q p) sure _ (Alias false other) _ (sure_declared run q) h
sure_declared (taken (external p n) run) q h = sure_declared run q h
sure_declared (taken (given p n) run) q h = sure_declared run q h
sure_declared (missed (declares p k b sure) {es = es} {rs = rs} may run) q h = sure_declared run q (by (same_path q p) sure may h)
  where
    by : (same sure : Bool) → not sure ≡ true → ((same && sure) || surely_declared es q) ≡ true
        → surely_declared es q ≡ true
    by same true may h = absurd (false≢true may)
    by true false may h = h
    by false false may h = h
sure_declared (missed (external p n) may run) q h = sure_declared run q h
sure_declared (missed (given p n) may run) q h = sure_declared run q h

module _ (es : List Entry) (rs : List Entry) (run : IsRun es rs) where
  -- the kind of a path in a run is one of the path's kinds
  pub among : (p : List Seg) (P : Kind → Type 0) → Turns P → AllByRecursion P (kinds_at es p)
      → IfSome (kind_at (namespace_of rs) p) P
  among p P turns all = kind_among run p P turns all

  -- a path at which a run has nothing isn't sure
  pub unsure : (p : List Seg) → kind_at (namespace_of rs) p ≡ None → sure_at es p ≡ false
  unsure p none = by (declared_at rs p) (predefined p) (surely_declared es p) (sure_declared run p) (ap is_some none)
    where
      by : (o standing : Option Kind) (sure : Bool) → (sure ≡ true → is_some o ≡ true)
          → is_some (option_or o standing) ≡ false
          → (sure || is_some standing) ≡ false
      by (Some k) standing sure here h = absurd (false≢true (sym h))
      by None (Some k) sure here h = absurd (false≢true (sym h))
      by None None true here h = absurd (false≢true (here refl))
      by None None false here h = refl

  -- ---- Counts.

  module _ (n : ℕ) where
    nothing_there : (o : Option Kind) → IfSome o (λ _. ⊥) → is_some o ≡ true → ⊥
    nothing_there None h some = false≢true some
    nothing_there (Some k) h some = h

    at_target : (out other : Option ℕ) (o : Option Kind) → IfSome o (λ k. target_count (Some k) out ≡ n)
        → is_some o ≡ true → target_count o other ≡ n
    at_target out other None h some = absurd (false≢true some)
    at_target out other (Some (Method args)) h some = h
    at_target out other (Some _) h some = h

    -- the target of an Alias
    by_target : (target : List Seg) (kinds : List Kind) → kinds_at es target ≡ kinds
        → AllByRecursion (λ m. m ≡ n) (target_counts kinds (outs_at es target))
        → is_some (kind_at (namespace_of rs) target) ≡ true
        → target_count (kind_at (namespace_of rs) target) (outs_at rs target) ≡ n
    by_target target [] is all some =
        absurd (nothing_there _ (among target (λ _. ⊥) (λ t u h. h) (subst (AllByRecursion (λ _. ⊥)) (sym is) tt)) some)
    by_target target (k ∷ kinds) is all some = at_target _ _ _
        (among target (λ l. target_count (Some l) (outs_at es target) ≡ n) (λ t u h. h)
        (subst (AllByRecursion _) (sym is) (every_map (λ m. m ≡ n) _ (k ∷ kinds) all))) some

    -- two counts aren't one
    untold : AllByRecursion (λ m. m ≡ n) (0 ∷ 1 ∷ []) → ⊥
    untold all = omega (arith, all.0, all.1.0)

    by_kind : (k : Kind) → AllByRecursion (λ m. m ≡ n) (counts_by (outlook_of es) k)
        → leads (namespace_of rs) (Some k) ≡ true → (out : Option ℕ)
        → count_of_kind (namespace_of rs) (Some k) out ≡ Some n
    by_kind (Method args) all here out = ap Some all.0
    by_kind (Alias true target) all here out = absurd (untold all)
    by_kind (Alias false target) all here out = ap Some (by_target target (kinds_at es target) refl all here)
    by_kind _ all here out = ap Some all.0

    counted : (p : List Seg) → AllByRecursion (λ m. m ≡ n) (counts_of (outlook_of es) p) → (k : Kind)
        → kind_at (namespace_of rs) p ≡ Some k
        → leads (namespace_of rs) (Some k) ≡ true → (out : Option ℕ) → count_of_kind (namespace_of rs) (Some k) out ≡ Some n
    counted p all k is = by_kind k (subst (λ o. IfSome o (λ l. AllByRecursion (λ m. m ≡ n) (counts_by (outlook_of es) l))) is
        (among p (λ l. AllByRecursion (λ m. m ≡ n) (counts_by (outlook_of es) l)) (λ t u told. absurd (untold told))
        (every_flat (λ m. m ≡ n) (counts_by (outlook_of es)) (kinds_at es p) all)))

    -- what the nearest candidate that decides has in a run is one of the counts that are met
    count_met : (locals : PathSet) (paths : List (List Seg))
        → AllByRecursion (λ m. m ≡ n) (counts_met (outlook_of es) locals paths)
        → IfSome (find (decides (namespace_of rs) locals) paths)
        (λ p. stands (namespace_of rs) locals p ≡ true → cond (set.contains locals p) (Some 0) (count_at (namespace_of rs) p) ≡ Some n)
    count_met locals [] all = tt
    count_met locals (p ∷ paths) all = by (set.contains locals p) refl (kind_at (namespace_of rs) p) refl (count_met locals paths) all
      where
        by : (local : Bool) → set.contains locals p ≡ local → (o : Option Kind) → kind_at (namespace_of rs) p ≡ o
            → (AllByRecursion (λ m. m ≡ n) (counts_met (outlook_of es) locals paths) → IfSome (find (decides (namespace_of rs) locals) paths)
            (λ p. stands (namespace_of rs) locals p ≡ true → cond (set.contains locals p) (Some 0) (count_at (namespace_of rs) p) ≡ Some n))
            → AllByRecursion (λ m. m ≡ n) (cond local (0 ∷ [])
            (cond (sure_at es p) (counts_of (outlook_of es) p) (counts_of (outlook_of es) p ++ counts_met (outlook_of es) locals paths)))
            → IfSome (cond (local || is_some o) (Some p) (find (decides (namespace_of rs) locals) paths))
            (λ p. stands (namespace_of rs) locals p ≡ true → cond (set.contains locals p) (Some 0) (count_at (namespace_of rs) p) ≡ Some n)
        by true is o at rest all = λ here. ap (λ b. cond b (Some 0) (count_at (namespace_of rs) p)) is ∙ ap Some all.0
        by false is (Some k) at rest all = λ here. ap (λ b. cond b (Some 0) (count_at (namespace_of rs) p)) is
            ∙ ap (λ o. count_of_kind (namespace_of rs) o (outs_at rs p)) at
            ∙ counted p (front (sure_at es p) all) k at (sym (λ i. is i || leads (namespace_of rs) (at i)) ∙ here) (outs_at rs p)
          where
            front : (sure : Bool) → AllByRecursion (λ m. m ≡ n)
                (cond sure (counts_of (outlook_of es) p) (counts_of (outlook_of es) p ++ counts_met (outlook_of es) locals paths))
                → AllByRecursion (λ m. m ≡ n) (counts_of (outlook_of es) p)
            front true all = all
            front false all = (every_append (λ m. m ≡ n) (counts_of (outlook_of es) p) _ all).0
        by false is None at rest all = rest (every_append (λ m. m ≡ n) (counts_of (outlook_of es) p) _
            (subst (λ b. AllByRecursion (λ m. m ≡ n)
            (cond b (counts_of (outlook_of es) p) (counts_of (outlook_of es) p ++ counts_met (outlook_of es) locals paths))) (unsure p at) all)).1

-- ---- The law.

-- where what was met agrees, that is the count
pub met_agrees : (ns : List ℕ) (n : ℕ) (differ unmet : Option ℕ) → common ns ≡ Some n
    → arity_met ns differ unmet ≡ Some n
met_agrees [] n differ unmet h = absurd (false≢true (ap is_some h))
met_agrees (m ∷ ns) n differ unmet h = ap (λ o. option_or o differ) h

pub every_run_agrees : (es : List Entry) → EveryRunAgrees es
every_run_agrees es rs run zero_too scope locals name some finds =
    by (arity_by_kinds (outlook_of es) scope locals name) refl some (find (decides (namespace_of rs) locals) (candidates scope name)) refl finds
  where
    by : (o : Option ℕ) → arity_by_kinds (outlook_of es) scope locals name ≡ o → is_some o ≡ true
        → (found : Option (List Seg))
        → find (decides (namespace_of rs) locals) (candidates scope name) ≡ found
        → IsSomeAnd found (λ p. stands (namespace_of rs) locals p ≡ true)
        → arity_of (namespace_of rs) zero_too scope locals name ≡ agreed_arity (outlook_of es) zero_too scope locals name
    by None is some found at here = absurd (false≢true some)
    by (Some n) is some None at here = absurd here
    by (Some n) is some (Some p) at here =
        ap (λ o. arity_at (namespace_of rs) zero_too locals (candidates scope name)
        (option_or o (find (is_outside (namespace_of rs)) (candidates scope name)))) at
        ∙ subst (λ o. IfSome o (λ p. stands (namespace_of rs) locals p ≡ true → cond (set.contains locals p) (Some 0) (count_at (namespace_of rs) p)
        ≡ Some n)) at
        (count_met es rs run n locals (candidates scope name) (common_all (counts_met (outlook_of es) locals (candidates scope name)) n is)) here
        ∙ sym (met_agrees (counts_met (outlook_of es) locals (candidates scope name)) n _ _ is)
