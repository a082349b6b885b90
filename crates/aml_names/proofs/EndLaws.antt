-- The last segments of the paths in a set, and the nearest of them in a scope. What is known of each last segment stays
-- true where a path is added (`known_pushed`, `known_root`), where a segment alone is made known and set back
-- (`known_room`, `known_back`), and answers what a look at the paths would (`known_depth`).
use Rattle.std.specs.Prelude.{slice_get}
use Rattle.std.specs.Option.{option_flatten}
use Rattle.std.proofs.Common.{◌≡◌, ℕ, zero, suc, ◌+◌, ◌-◌, ◌<◌, ◌≤◌, ◌==◌, Bool, true, false, ◌||◌, cond, List, [], ◌∷◌}
use Rattle.std.proofs.Common.{◌++◌, length, take, drop, Option, Some, None, IfSome, is_some, Result, Ok, Err, OnOk}
use Rattle.std.proofs.Common.{OnErr, refl, sym, ap, subst, ◌∙◌, arith, length-append}
use Rattle.std.proofs.lemmas.Bool.{false≢true, eqb-true, eqb-false, cond_both, false_from_ne_true}
use Rattle.std.proofs.lemmas.Bool.Decides.{nat_tests}
use Rattle.std.proofs.lemmas.List.{take-take, take-append-le, take_all, take_at, take_more, length-take, length-take-le}
use Rattle.std.proofs.Math.Seq.{drop-append_seam}
use Rattle.std.proofs.lemmas.Option.{IfSome_then, slice_get-get_or, get_or_from_slice_get}
use Rattle.std.proofs.lemmas.Map.Views.{tells_apart}
use Rattle.std.specs.Ordering.{eq_by_cmp}
use Rattle.std.specs.Cmp.{eq_by_cmp_equiv}
use Rattle.std.specs.BTreeMap.{BTreeMap, is_at, get}
use Rattle.std.specs.Map.{lookup}
use Rattle.std.specs.FinSet as set
use Rattle.aml_names.specs.declared.segments.Seg.{Seg}
use Rattle.aml_names.specs.Paths.{PathSet, seg_cmp, path_cmp, segs_total, paths_total, exact_segs, exact_paths}
use Rattle.aml_names.specs.Searching.{greatest, nearest, IsKnown, KnowEnds, deeper}

module _ (a b : ℕ → Bool) where
  pub greatest_same : (n : ℕ) → ((d : ℕ) → d ≤ n → a d ≡ b d) → greatest a n ≡ greatest b n
  greatest_same zero same = ap (λ t. cond t (Some 0) None) (same 0 (omega arith))
  greatest_same (suc n) same = λ i. cond (same (suc n) (omega arith) i) (Some (suc n)) (greatest_same n (λ d less. same d (omega (arith, less))) i)

module _ (a : ℕ → Bool) where
  pub greatest_none : (n : ℕ) → ((d : ℕ) → d ≤ n → a d ≡ false) → greatest a n ≡ None
  greatest_none zero none = ap (λ t. cond t (Some 0) None) (none 0 (omega arith))
  greatest_none (suc n) none =
      ap (λ t. cond t (Some (suc n)) (greatest a n)) (none (suc n) (omega arith)) ∙ greatest_none n (λ d less. none d (omega (arith, less)))

  pub greatest_within : (n : ℕ) → IfSome (greatest a n) (λ d. d ≤ n)
  greatest_within zero = cond_both (a 0) _ _ (λ o. IfSome o (λ d. d ≤ 0)) (λ _. omega arith) (λ _. tt)
  greatest_within (suc n) = cond_both (a (suc n)) _ _ (λ o. IfSome o (λ d. d ≤ suc n)) (λ _. omega arith)
      (λ _. IfSome_then (greatest a n) (greatest_within n) (λ d less. omega (arith, less)))

  pub greatest_hit : (n : ℕ) → a n ≡ true → greatest a n ≡ Some n
  greatest_hit zero hit = ap (λ t. cond t (Some 0) None) hit
  greatest_hit (suc n) hit = ap (λ t. cond t (Some (suc n)) (greatest a n)) hit

  pub greatest_miss : (n : ℕ) → a n ≡ false → 0 < n → greatest a n ≡ greatest a (n - 1)
  greatest_miss zero miss positive = absurd (omega (arith, positive))
  greatest_miss (suc n) miss positive = ap (λ t. cond t (Some (suc n)) (greatest a n)) miss ∙ ap (greatest a) {x = n} {y = suc n - 1} (omega arith)

-- a number more that passes
raised_more : (n k : ℕ) (here there : Bool) (o p : Option ℕ) → k ≤ suc n → there ≡ ((suc n == k) || here)
    → IfSome o (λ d. d ≤ n)
    → (k ≤ n → p ≡ deeper (Some k) o) → cond there (Some (suc n)) p ≡ deeper (Some k) (cond here (Some (suc n)) o)
raised_more n k here there None p within is less rest = grind (arith, nat_tests)
raised_more n k here there (Some d) p within is less rest = grind (arith, nat_tests)

greatest_raised : (a b : ℕ → Bool) (k n : ℕ) → k ≤ n → ((d : ℕ) → d ≤ n → b d ≡ ((d == k) || a d))
    → greatest b n ≡ deeper (Some k) (greatest a n)
greatest_raised a b k zero within raised = first (a 0) (b 0) (raised 0 (omega arith))
  where
    first : (here there : Bool) → there ≡ ((0 == k) || here)
        → cond there (Some 0) None ≡ deeper (Some k) (cond here (Some 0) None)
    first here there is = grind (arith, nat_tests)
greatest_raised a b k (suc n) within raised = raised_more n k (a (suc n)) (b (suc n)) (greatest a n) (greatest b n) within (raised (suc n) (omega arith))
    (greatest_within a n) (λ less. greatest_raised a b k n less (λ d below. raised d (omega (arith, below))))

-- ---- paths by their last segment

last_split : (n : ℕ) (p : List Seg) (e : Seg) → n + 1 ≡ length p → slice_get p n ≡ Some e → p ≡ take n p ++ e ∷ []
last_split n p e long is = sym (take_all (n + 1) p (omega (arith, long))) ∙ take_more p n e (omega (arith, long))
    ∙ ap (λ s. take n p ++ s ∷ []) (get_or_from_slice_get p n e e is)

take_short : (k : ℕ) (l : List Seg) → length (take k l) ≤ length l
take_short k l = omega (arith, length-take k l)

last_of : (front : List Seg) (e : Seg) → slice_get (front ++ e ∷ []) (length front) ≡ Some e
last_of [] e = refl
last_of (x ∷ front) e = last_of front e

-- a segment in which no path ends
pub nearest_none : (paths : PathSet) (own scope : List Seg) (e : Seg) → IsKnown paths own e None
    → nearest paths scope (e ∷ []) ≡ None
nearest_none paths own scope e none = greatest_none (λ d. set.contains paths (take d scope ++ e ∷ [])) (length scope) (λ d less. none (take d scope))

module _ (paths : PathSet) (scope : List Seg) where
  -- what is known says which is the nearest
  pub known_depth : (end : Seg) (known : Option (Option ℕ)) → IsKnown paths scope end known
      → option_flatten known ≡ nearest paths scope (end ∷ [])
  known_depth end None none = sym (nearest_none paths scope scope end none)
  known_depth end (Some depth) is = is

  -- a segment more that is known
  pub known_room : (known new : Seg → Option (Option ℕ)) (e : Seg) → KnowEnds paths scope known
      → ((q : Seg) → new q ≡ cond (is_at (seg_cmp e) q) (Some (deeper None (option_flatten (known e)))) (known q))
      → KnowEnds paths scope new
  known_room known new e know grown s = subst (IsKnown paths scope s) (sym (grown s)) (by (is_at (seg_cmp e) s) refl)
    where
      by : (t : Bool) → is_at (seg_cmp e) s ≡ t
          → IsKnown paths scope s (cond t (Some (option_flatten (known e))) (known s))
      by true is = known_depth e (known e) (know e) ∙ ap (λ (x : Seg). nearest paths scope (x ∷ [])) (tells_apart exact_segs e s is)
      by false is = know s

  -- a segment whose depth was changed and set back
  pub known_back : (known changed new : Seg → Option (Option ℕ)) (e : Seg) (depth back : Option ℕ)
      → KnowEnds paths scope known
      → back ≡ option_flatten (known e) → ((q : Seg) → changed q ≡ cond (is_at (seg_cmp e) q) (Some depth) (known q))
      → ((q : Seg) → new q ≡ cond (is_at (seg_cmp e) q) (Some back) (changed q)) → KnowEnds paths scope new
  known_back known changed new e depth back know was change set =
      known_room known new e know (λ q. set q ∙ by q (is_at (seg_cmp e) q) (changed q) (change q))
    where
      by : (q : Seg) (t : Bool) (c : Option (Option ℕ)) → c ≡ cond t (Some depth) (known q)
          → cond t (Some back) c ≡ cond t (Some (option_flatten (known e))) (known q)
      by q true c is = ap (λ d. Some d) was
      by q false c is = is

-- paths of the same segments
pub same_path : (a b : List Seg) → eq_by_cmp path_cmp a b ≡ true → a ≡ b
same_path a b is = tells_apart exact_paths a b is

pub other_path : (a b : List Seg) → (a ≡ b → ⊥) → eq_by_cmp path_cmp a b ≡ false
other_path a b differ = false_from_ne_true (eq_by_cmp path_cmp a b) (λ is. differ (same_path a b is))

-- a path more that doesn't end in a segment
known_apart : (paths : PathSet) (scope p : List Seg) (s : Seg)
    → ((front : List Seg) → eq_by_cmp path_cmp (front ++ s ∷ []) p ≡ false)
    → (o : Option (Option ℕ)) → IsKnown paths scope s o → IsKnown (set.insert paths p) scope s o
known_apart paths scope p s apart = by
  where
    same : (front : List Seg)
        → set.contains (set.insert paths p) (front ++ s ∷ []) ≡ set.contains paths (front ++ s ∷ [])
    same front = set.contains-insert paths_total paths p (front ++ s ∷ []) ∙ ap (λ t. t || set.contains paths (front ++ s ∷ [])) (apart front)

    by : (o : Option (Option ℕ)) → IsKnown paths scope s o → IsKnown (set.insert paths p) scope s o
    by None none = λ front. same front ∙ none front
    by (Some d) near = near ∙ sym (greatest_same (λ d. set.contains (set.insert paths p) (take d scope ++ s ∷ []))
        (λ d. set.contains paths (take d scope ++ s ∷ [])) (length scope) (λ d less. same (take d scope)))

-- one path more, and what is known of its last segment
module _ (paths : PathSet) (scope p : List Seg) (e : Seg) (is : slice_get p (length p - 1) ≡ Some e) (k : ℕ) (long : k + 1 ≡ length p) where
  split : p ≡ take k p ++ e ∷ []
  split = last_split k p e long (ap (slice_get p) {x = k} {y = length p - 1} (omega (arith, long)) ∙ is)

  apart : (s : Seg) → is_at (seg_cmp e) s ≡ false → (front : List Seg) → eq_by_cmp path_cmp (front ++ s ∷ []) p ≡ false
  apart s differ front = other_path (front ++ s ∷ []) p (λ same.
      let deep : length front ≡ k = omega (arith, long, sym (length-append front (s ∷ [])) ∙ ap length same) in
      let met : ◌≡◌ {A = Option Seg} (Some s) (Some e) = sym (last_of front s) ∙ (λ i. slice_get (same i) (deep i))
      ∙ ap (slice_get p) {x = k} {y = length p - 1} (omega (arith, long)) ∙ is in
      let one : s ≡ e = (cc) in
      false≢true (sym differ ∙ ap (λ (x : Seg). is_at (seg_cmp e) x) one ∙ (eq_by_cmp_equiv segs_total).refl e))

  with_one : (q : List Seg) → set.contains (set.insert paths p) q ≡ (eq_by_cmp path_cmp q p || set.contains paths q)
  with_one q = set.contains-insert paths_total paths p q

  -- where the path's front begins the scope
  here : eq_by_cmp path_cmp (take k scope) (take k p) ≡ true → (d : ℕ) → d ≤ length scope
      → eq_by_cmp path_cmp (take d scope ++ e ∷ []) p ≡ (d == k)
  here begins d within = by (d == k) refl
    where
      front : take k scope ≡ take k p
      front = same_path (take k scope) (take k p) begins

      by : (t : Bool) → (d == k) ≡ t → eq_by_cmp path_cmp (take d scope ++ e ∷ []) p ≡ t
      by true at =
          let same : take d scope ++ e ∷ [] ≡ p = ap (λ n. take n scope ++ e ∷ []) {x = d} {y = k} (eqb-true d k at) ∙ ap (λ l. l ++ e ∷ []) front
          ∙ sym split in
          ap (λ q. eq_by_cmp path_cmp q p) same ∙ (eq_by_cmp_equiv paths_total).refl p
      by false at = other_path (take d scope ++ e ∷ []) p (λ same. omega (
        arith,
        eqb-false d k at,
        long,
        sym (ap length same)
            ∙ length-append (take d scope) (e ∷ []),
        length-take-le d scope within,
      ))

  elsewhere : eq_by_cmp path_cmp (take k scope) (take k p) ≡ false → (d : ℕ) → d ≤ length scope
      → eq_by_cmp path_cmp (take d scope ++ e ∷ []) p ≡ false
  elsewhere differs d within = other_path (take d scope ++ e ∷ []) p (λ same.
      let at : d ≡ k = omega (arith, long, sym (ap length same) ∙ length-append (take d scope) (e ∷ []), length-take-le d scope within) in
      let front : take k scope ≡ take k p = ap (λ n. take n scope) {x = k} {y = d} (sym at) ∙ sym (take_at (take d scope) (e ∷ []) (length (take d scope)) refl)
      ∙ (λ i. take (length-take-le d scope within i) (same i)) ∙ ap (λ n. take n p) at in
      false≢true (sym differs ∙ ap (eq_by_cmp path_cmp (take k scope)) (sym front) ∙ (eq_by_cmp_equiv paths_total).refl (take k scope)))

  begins_within : eq_by_cmp path_cmp (take k scope) (take k p) ≡ true → k ≤ length scope
  begins_within begins =
      omega (arith, long, ap length (same_path (take k scope) (take k p) begins), length-take-le k p (omega (arith, long)), take_short k scope)

  raised_depth : (depth : Option ℕ) → depth ≡ cond (eq_by_cmp path_cmp (take k scope) (take k p)) (Some k) None
      → nearest (set.insert paths p) scope (e ∷ []) ≡ deeper depth (nearest paths scope (e ∷ []))
  raised_depth depth met = by (eq_by_cmp path_cmp (take k scope) (take k p)) refl ∙ ap (λ o. deeper o (nearest paths scope (e ∷ []))) (sym met)
    where
      by : (t : Bool) → eq_by_cmp path_cmp (take k scope) (take k p) ≡ t
          → nearest (set.insert paths p) scope (e ∷ []) ≡ deeper (cond t (Some k) None) (nearest paths scope (e ∷ []))
      by true begins = greatest_raised (λ d. set.contains paths (take d scope ++ e ∷ [])) (λ d. set.contains (set.insert paths p) (take d scope ++ e ∷ [])) k
          (length scope) (begins_within begins)
          (λ d less. with_one (take d scope ++ e ∷ []) ∙ ap (λ t. t || set.contains paths (take d scope ++ e ∷ [])) (here begins d less))
      by false differs =
          greatest_same (λ d. set.contains (set.insert paths p) (take d scope ++ e ∷ [])) (λ d. set.contains paths (take d scope ++ e ∷ [])) (length scope)
          (λ d less. with_one (take d scope ++ e ∷ []) ∙ ap (λ t. t || set.contains paths (take d scope ++ e ∷ [])) (elsewhere differs d less))

  pub known_pushed : (known new : Seg → Option (Option ℕ)) (depth : Option ℕ) → KnowEnds paths scope known
      → depth ≡ cond (eq_by_cmp path_cmp (take k scope) (take k p)) (Some k) None
      → ((q : Seg) → new q ≡ cond (is_at (seg_cmp e) q) (Some (deeper depth (option_flatten (known e)))) (known q))
      → KnowEnds (set.insert paths p) scope new
  known_pushed known new depth know met grown s = subst (IsKnown (set.insert paths p) scope s) (sym (grown s)) (by (is_at (seg_cmp e) s) refl)
    where
      by : (t : Bool) → is_at (seg_cmp e) s ≡ t
          → IsKnown (set.insert paths p) scope s (cond t (Some (deeper depth (option_flatten (known e)))) (known s))
      by true same =
          ap (deeper depth) (known_depth paths scope e (known e) (know e)) ∙ sym (raised_depth depth met)
          ∙ ap (λ (x : Seg). nearest (set.insert paths p) scope (x ∷ [])) (tells_apart exact_segs e s same)
      by false differ = known_apart paths scope p s (apart s differ) (known s) (know s)

-- the root more
pub known_root : (paths : PathSet) (scope p : List Seg) (known : Seg → Option (Option ℕ)) → KnowEnds paths scope known
    → slice_get p (length p - 1) ≡ None
    → KnowEnds (set.insert paths p) scope known
known_root paths scope p known know none s = known_apart paths scope p s apart (known s) (know s)
  where
    root : (p : List Seg) → slice_get p (length p - 1) ≡ None → length p ≡ 0
    root [] none = refl
    root (x ∷ p) none = let some = slice_get-get_or (x ∷ p) (length (x ∷ p) - 1) x (omega arith) in absurd cc

    apart : (front : List Seg) → eq_by_cmp path_cmp (front ++ s ∷ []) p ≡ false
    apart front = other_path (front ++ s ∷ []) p (λ same. omega (arith, root p none, sym (ap length same) ∙ length-append front (s ∷ [])))

-- nothing is known of no path
pub known_nothing : (scope : List Seg) (known : Seg → Option (Option ℕ)) → ((q : Seg) → known q ≡ None)
    → KnowEnds set.empty scope known
known_nothing scope known none s = subst (IsKnown set.empty scope s) (sym (none s)) (λ front. set.contains-empty path_cmp (front ++ s ∷ []))

-- a path with the segment above its last one taken out
pub raised : (d : ℕ) (scope tail p : List Seg) → p ≡ take d scope ++ tail → d ≤ length scope → length tail ≡ 1 → 0 < d
    → take (length p - 2) p ++ drop (length p - 1) p ≡ take (d - 1) scope ++ tail
raised d scope tail p is within one positive =
    let long : length (take d scope) ≡ d = length-take-le d scope within in
    let all : length p ≡ d + 1 = ap length is ∙ length-append (take d scope) tail ∙ omega (arith, long, one) in
    let front : take (length p - 2) p ≡ take (d - 1) scope =
    ap (λ n. take n p) {y = d - 1} (omega (arith, all)) ∙ ap (take (d - 1)) is ∙ take-append-le (d - 1) (take d scope) tail (omega (arith, long))
    ∙ take-take (d - 1) d scope (omega arith) in
    let back : drop (length p - 1) p ≡ tail =
    ap (λ n. drop n p) {y = length (take d scope)} (omega (arith, all, long)) ∙ ap (drop (length (take d scope))) is ∙ drop-append_seam (take d scope) tail in
    λ i. front i ++ back i

pub is_none : {X : Type 0} → (o : Option X) → is_some o ≡ false → o ≡ None
is_none None e = refl
is_none (Some x) e = absurd (false≢true (sym e))

-- what can't be refused
pub not_refused : {X E P Q : Type 0} → (r : Result X E) → OnOk r P → OnErr r Q → (Q → ⊥) → P
not_refused (Ok x) p q never = p
not_refused (Err e) p q never = absurd (never q)

pub there_is : (paths : PathSet) (new : Seg → Option (Option ℕ)) (e : Seg) (d : Option ℕ) (known : Option (Option ℕ))
    → new e ≡ cond (is_at (seg_cmp e) e) (Some d) known → new e ≡ None → ⊥
there_is paths new e d known is none = let some = is ∙ ap (λ b. cond b (Some d) known) ((eq_by_cmp_equiv segs_total).refl e) in cc

-- no path, and nothing known
pub nothing_there : (ends : BTreeMap Seg (Option ℕ)) (scope : List Seg) → ends.entries ≡ []
    → KnowEnds set.empty scope (get seg_cmp ends)
nothing_there ends scope no_end = known_nothing scope (get seg_cmp ends) (λ q. ap (λ es. lookup (is_at (seg_cmp q)) es) no_end)
