-- Paths by where they branch off a scope: each path does so in one way (`branch_at`, `one_branch`), so that the
-- branches tell which paths are kept (`contained`, `one_kept`), and how deep in the scope the last segment of each
-- stands (`met_depth`).
use Rattle.std.specs.Prelude.{slice_get}
use Rattle.std.proofs.Common.{◌≡◌, ℕ, zero, suc, ◌+◌, ◌-◌, ◌<◌, ◌≤◌, Bool, true, false, ◌||◌, cond, List, [], ◌∷◌, ◌++◌}
use Rattle.std.proofs.Common.{map, length, take, drop, get_or}
use Rattle.std.proofs.Common.{Option, Some, None, refl, sym, ap, subst, ◌∙◌, arith, length-append, append_assoc}
use Rattle.std.proofs.lemmas.Bool.{false≢true}
use Rattle.std.proofs.lemmas.List.{take-take, take-append-le, take_all, take_more, drop_more, length-take-le}
use Rattle.std.proofs.lemmas.List.{length-drop}
use Rattle.std.proofs.lemmas.Option.{slice_get_within, get_or_from_slice_get}
use Rattle.std.proofs.lemmas.Map.Views.{tells_apart}
use Rattle.std.specs.declared.cmp.Ordering.{Ordering}
use Rattle.std.specs.declared.cmp.Ordering.TheVariants.{Less, Equal, Greater}
use Rattle.std.specs.Ordering.{eq_by_cmp, nat_cmp, ordering_then}
use Rattle.std.specs.Cmp.{IsTotalOrder, eq_by_cmp_equiv, nat_cmp_total, then_total, on_total}
use Rattle.std.specs.FinMap.{IsAntisymmetric, nat_cmp-IsAntisymmetric}
use Rattle.std.specs.List.{list_any}
use Rattle.std.specs.Option.{option_map, unwrap_or}
use Rattle.std.specs.BTreeMap.{is_at}
use Rattle.std.specs.FinSet as set
use Rattle.aml_names.specs.declared.segments.Seg.{Seg}
use Rattle.aml_names.specs.Paths.{seg_cmp, path_cmp, segs_total, paths_total, exact_segs, exact_paths}
use Rattle.aml_names.specs.Branches.{whole, goes_on, end_depth, branch_cmp, IsBranch, AreBranches}
use Rattle.aml_names.specs.Searching.{IsKnown}
use Rattle.aml_names.proofs.Sets.{any_path}
use Rattle.aml_names.proofs.EndLaws.{other_path}

abbrev pub Branch : Type 0
Branch = ℕ × List Seg

branches_total : IsTotalOrder branch_cmp
branches_total = then_total (on_total (λ b. b.0) nat_cmp_total) (on_total (λ b. b.1) paths_total)

exact_branches : IsAntisymmetric branch_cmp
exact_branches a b = by (nat_cmp a.0 b.0) refl
  where
    by : (o : Ordering) → nat_cmp a.0 b.0 ≡ o → ordering_then o (path_cmp a.1 b.1) ≡ Equal → a ≡ b
    by Less e f = absurd cc
    by Equal e f = λ i. (nat_cmp-IsAntisymmetric a.0 b.0 e i, exact_paths a.1 b.1 f i)
    by Greater e f = absurd cc

-- ---- Each path is a branch in one way.

pub goes_on_there : (scope : List Seg) (d : ℕ) (s : Seg) → goes_on scope d s ≡ true → slice_get scope d ≡ Some s
goes_on_there scope d s = by (slice_get scope d)
  where
    by : (o : Option Seg) → unwrap_or (option_map (λ next. eq_by_cmp seg_cmp next s) o) false ≡ true → o ≡ Some s
    by None e = absurd cc
    by (Some next) e = ap Some (tells_apart exact_segs next s e)

pub goes_on_not : (scope : List Seg) (d : ℕ) (s : Seg) → goes_on scope d s ≡ false → slice_get scope d ≡ Some s → ⊥
goes_on_not scope d s e there =
    let met = ap (λ o. unwrap_or (option_map (λ next. eq_by_cmp seg_cmp next s) o) false) there ∙ (eq_by_cmp_equiv segs_total).refl s in
    false≢true (sym e ∙ met)

below : (s : Seg) (ss : List Seg) (d : ℕ) (p : List Seg) → IsBranch (s ∷ ss) (suc d, p) → IsBranch ss (d, p)
below s ss d p a = record { within = omega (arith, a.within); apart = a.apart }

pub one_branch : (scope : List Seg) (m : ℕ) (p : List Seg) (n : ℕ) (q : List Seg) → IsBranch scope (m, p)
    → IsBranch scope (n, q)
    → take m scope ++ p ≡ take n scope ++ q → ◌≡◌ {A = Branch} (m, p) (n, q)
one_branch scope zero p zero q a b e = λ i. (0, e i)
one_branch [] zero p (suc n) q a b e = absurd (omega (arith, b.within))
one_branch (s ∷ ss) zero p (suc n) q a b e = absurd (a.apart s (take n ss ++ q) e refl)
one_branch [] (suc m) p n q a b e = absurd (omega (arith, a.within))
one_branch (s ∷ ss) (suc m) p zero q a b e = absurd (b.apart s (take m ss ++ p) (sym e) refl)
one_branch (s ∷ ss) (suc m) p (suc n) q a b e =
    let below_it = one_branch ss m p n q (below s ss m p a) (below s ss n q b) (ap (drop 1) e) in
    λ i. (suc (below_it i).0, (below_it i).1)

pub branch_at : (scope p : List Seg) → (b : Branch) × IsBranch scope b × (whole scope b ≡ p)
branch_at [] p = ((0, p), record { within = omega arith; apart = λ s q e f. absurd cc }, refl)
branch_at (s ∷ ss) [] = ((0, []), record { within = omega arith; apart = λ t q e f. absurd cc }, refl)
branch_at (s ∷ ss) (t ∷ q) = by (branch_at ss q) (eq_by_cmp seg_cmp s t) refl
  where
    by : (b : Branch) × IsBranch ss b × (whole ss b ≡ q) → (same : Bool) → eq_by_cmp seg_cmp s t ≡ same
        → (b : Branch) × IsBranch (s ∷ ss) b × (whole (s ∷ ss) b ≡ t ∷ q)
    by b true same = (
      (suc b.0.0, b.0.1),
      record { within = omega (arith, b.1.within); apart = b.1.apart },
      λ i. tells_apart exact_segs s t same i ∷ b.2 i,
    )
    by b false other = ((0, t ∷ q), record { within = omega arith; apart = λ x y e f. differ (heads e) (only f) }, refl)
      where
        heads : {x : Seg} {y : List Seg} → t ∷ q ≡ x ∷ y → t ≡ x
        heads e = ap (λ l. get_or l 0 t) e

        only : {x : Seg} → Some s ≡ Some x → s ≡ x
        only f = ap (λ o. unwrap_or o s) f

        differ : {x : Seg} → t ≡ x → s ≡ x → ⊥
        differ e f = false≢true (sym other ∙ ap (eq_by_cmp seg_cmp s) (e ∙ sym f) ∙ (eq_by_cmp_equiv segs_total).refl s)

-- ---- A step of the walk along a scope.

abbrev no_seg : Seg
no_seg = record { 0 = [] }

pub branch_here : (scope segs : List Seg) (d m i : ℕ) → m ≡ i → d ≤ length scope → i < length segs
    → goes_on scope d (get_or segs i no_seg) ≡ false
    → IsBranch scope (d, take (length segs - m) (drop m segs))
branch_here scope segs d m i same within more stop = record {
  within = within;
  apart = λ x q e there. goes_on_not scope d (get_or segs i no_seg) stop (there ∙ ap Some (sym (first x q e)));
}
  where
    first : (x : Seg) (q : List Seg) → take (length segs - m) (drop m segs) ≡ x ∷ q → get_or segs i no_seg ≡ x
    first x q e =
        let all = take_all (length segs - m) (drop m segs) (omega (arith, length-drop m segs)) ∙ ap (λ n. drop n segs) same ∙ drop_more segs i no_seg more in
        ap (λ l. get_or l 0 no_seg) (sym all ∙ e)

pub one_deeper : (scope segs : List Seg) (front d i : ℕ) → i < length segs
    → goes_on scope d (get_or segs i no_seg) ≡ true
    → take d scope ≡ take front scope ++ take i segs
    → (d + 1 ≤ length scope) × (take (d + 1) scope ≡ take front scope ++ take (i + 1) segs)
one_deeper scope segs front d i more on same =
    let there = goes_on_there scope d (get_or segs i no_seg) on in
    let within = slice_get_within scope d (get_or segs i no_seg) there in (
      omega (arith, within),
      take_more scope d no_seg within ∙ (λ j. same j ++ get_or_from_slice_get scope d (get_or segs i no_seg) no_seg there j ∷ [])
          ∙ append_assoc (take front scope) (take i segs) (get_or segs i no_seg ∷ [])
          ∙ ap (λ l. take front scope ++ l) (sym (take_more segs i no_seg more)),
    )

-- ---- Which paths are kept.

both : (a b : Bool) → (a ≡ true → b ≡ true) → (b ≡ true → a ≡ true) → a ≡ b
both true b there back = sym (there refl)
both false true there back = back refl
both false false there back = refl

same_test : (scope : List Seg) (a b : Branch) → IsBranch scope a → IsBranch scope b
    → is_at (path_cmp (whole scope a)) (whole scope b) ≡ is_at (branch_cmp a) b
same_test scope a b here there = both _ _
    (λ e. ap (λ c. is_at (branch_cmp a) c)
    (sym (one_branch scope a.0 a.1 b.0 b.1 here there (tells_apart exact_paths (whole scope a) (whole scope b) e)))
    ∙ (eq_by_cmp_equiv branches_total).refl a)
    (λ e. ap (λ c. is_at (path_cmp (whole scope a)) (whole scope c)) (sym (tells_apart exact_branches a b e))
    ∙ (eq_by_cmp_equiv paths_total).refl (whole scope a))

or_front : (a b : Bool) → a ≡ true → (a || b) ≡ true
or_front true b e = refl
or_front false b e = absurd cc

or_back : (a b : Bool) → b ≡ true → (a || b) ≡ true
or_back true b e = refl
or_back false b e = e

any_branch : (scope : List Seg) (bs : List Branch) (b : Branch) → AreBranches scope bs → IsBranch scope b
    → list_any (is_at (path_cmp (whole scope b))) (map (whole scope) bs) ≡ list_any (is_at (branch_cmp b)) bs
any_branch scope [] b are is = refl
any_branch scope (c ∷ cs) b are is =
    let first = are c (or_front (is_at (branch_cmp c) c) (list_any (is_at (branch_cmp c)) cs) ((eq_by_cmp_equiv branches_total).refl c)) in
    let others = any_branch scope cs b (λ d there. are d (or_back (is_at (branch_cmp d) c) (list_any (is_at (branch_cmp d)) cs) there)) is in
    λ i. same_test scope b c is first i || others i

pub contained : (scope : List Seg) (bs : List Branch) (b : Branch) → AreBranches scope bs → IsBranch scope b
    → set.contains (set.from_list {R = path_cmp} (map (whole scope) bs)) (whole scope b) ≡ list_any (is_at (branch_cmp b)) bs
contained scope bs b are is = any_path (map (whole scope) bs) (whole scope b) ∙ any_branch scope bs b are is

or_by_cond : (a b : Bool) → cond a true b ≡ (a || b)
or_by_cond true b = refl
or_by_cond false b = refl

module _ (scope : List Seg) (bs cs : List Branch) (b : Branch) (are : AreBranches scope bs) (is : IsBranch scope b)
    (grown : (q : Branch) → list_any (is_at (branch_cmp q)) cs ≡ cond (is_at (branch_cmp b) q) true (list_any (is_at (branch_cmp q)) bs)) where
  pub still_branches : AreBranches scope cs
  still_branches q there = by (is_at (branch_cmp b) q) refl
    where
      by : (same : Bool) → is_at (branch_cmp b) q ≡ same → IsBranch scope q
      by true same = subst (IsBranch scope) (tells_apart exact_branches b q same) is
      by false other = are q (ap (λ t. cond t true (list_any (is_at (branch_cmp q)) bs)) (sym other) ∙ sym (grown q) ∙ there)

  pub one_kept : set.from_list {R = path_cmp} (map (whole scope) cs) ≡ set.insert (set.from_list (map (whole scope) bs)) (whole scope b)
  one_kept = set.same_set paths_total exact_paths _ _ each
    where
      each : (p : List Seg) → set.contains (set.from_list {R = path_cmp} (map (whole scope) cs)) p
          ≡ set.contains (set.insert (set.from_list {R = path_cmp} (map (whole scope) bs)) (whole scope b)) p
      each p =
          let q = branch_at scope p in
          let more = contained scope cs q.0 still_branches q.1 ∙ grown q.0 ∙ or_by_cond (is_at (branch_cmp b) q.0) (list_any (is_at (branch_cmp q.0)) bs) in
          let here = sym (same_test scope b q.0 is q.1) ∙ (eq_by_cmp_equiv paths_total).symm (whole scope b) (whole scope q.0) in
          let before = set.contains-insert paths_total (set.from_list {R = path_cmp} (map (whole scope) bs)) (whole scope b) (whole scope q.0)
          ∙ ap (λ t. eq_by_cmp path_cmp (whole scope q.0) (whole scope b) || t) (contained scope bs q.0 are q.1) in
          subst (λ r. set.contains (set.from_list {R = path_cmp} (map (whole scope) cs)) r
          ≡ set.contains (set.insert (set.from_list {R = path_cmp} (map (whole scope) bs)) (whole scope b)) r) q.2
          (more ∙ ap (λ t. t || list_any (is_at (branch_cmp q.0)) bs) here ∙ sym before)

-- ---- How deep the last segment stands.

never_on : (scope : List Seg) (d : ℕ) (x : Seg) (r : List Seg) → IsBranch scope (d, x ∷ r) → (k : ℕ) → d < k
    → take k scope ≡ take k (take d scope ++ x ∷ r) → ⊥
never_on scope d x r a zero beyond e = omega (arith, beyond)
never_on [] zero x r a (suc k) beyond e = cc
never_on (s ∷ ss) zero x r a (suc k) beyond e = a.apart x r refl (ap (λ l. slice_get l 0) e)
never_on [] (suc d) x r a (suc k) beyond e = omega (arith, a.within)
never_on (s ∷ ss) (suc d) x r a (suc k) beyond e = never_on ss d x r (below s ss d (x ∷ r) a) k (omega (arith, beyond)) (ap (drop 1) e)

length_whole : (scope : List Seg) (d : ℕ) (tail : List Seg) → d ≤ length scope
    → length (whole scope (d, tail)) ≡ d + length tail
length_whole scope d tail within = length-append (take d scope) tail ∙ ap (λ n. n + length tail) (length-take-le d scope within)

same_front : (scope : List Seg) (d : ℕ) (tail : List Seg) (k : ℕ) → d ≤ length scope → k ≤ d
    → eq_by_cmp path_cmp (take k scope) (take k (whole scope (d, tail))) ≡ true
same_front scope d tail k within less =
    let front : take k (whole scope (d, tail)) ≡ take k scope =
    take-append-le k (take d scope) tail (omega (arith, less, length-take-le d scope within)) ∙ take-take k d scope less in
    ap (eq_by_cmp path_cmp (take k scope)) front ∙ (eq_by_cmp_equiv paths_total).refl (take k scope)

pub met_depth : (scope : List Seg) (d : ℕ) (tail : List Seg) (k : ℕ) → IsBranch scope (d, tail)
    → k + 1 ≡ length (whole scope (d, tail))
    → end_depth (d, tail) ≡ cond (eq_by_cmp path_cmp (take k scope) (take k (whole scope (d, tail)))) (Some k) None
met_depth scope d [] k a long =
    let all = long ∙ length_whole scope d [] a.within in
    ap Some (omega (arith, all)) ∙ sym (ap (λ t. cond t (Some k) None) (same_front scope d [] k a.within (omega (arith, all))))
met_depth scope d (x ∷ []) k a long =
    let all = long ∙ length_whole scope d (x ∷ []) a.within in
    ap Some (omega (arith, all)) ∙ sym (ap (λ t. cond t (Some k) None) (same_front scope d (x ∷ []) k a.within (omega (arith, all))))
met_depth scope d (x ∷ y ∷ q) k a long =
    let all = long ∙ length_whole scope d (x ∷ y ∷ q) a.within in
    sym (ap (λ t. cond t (Some k) None) (other_path (take k scope) (take k (whole scope (d, x ∷ y ∷ q)))
    (never_on scope d x (y ∷ q) a k (omega (arith, all)))))

-- ---- The last segment of a path.

pub known_last : (paths : set.FinSet path_cmp) (scope front segs : List Seg) (e : Seg)
    → slice_get segs (length segs - 1) ≡ Some e
    → IsKnown paths scope e None → set.contains paths (front ++ segs) ≡ false
known_last paths scope front segs e last none =
    let k = length segs - 1 in
    let within = slice_get_within segs k e last in
    let split : segs ≡ take k segs ++ e ∷ [] =
    sym (take_all (k + 1) segs (omega arith)) ∙ take_more segs k e within ∙ (λ i. take k segs ++ get_or_from_slice_get segs k e e last i ∷ []) in
    ap (λ l. set.contains paths (front ++ l)) split ∙ ap (set.contains paths) (sym (append_assoc front (take k segs) (e ∷ []))) ∙ none (front ++ take k segs)
