-- Runs of entries that grow at their end. What becomes of a run where an entry is added: it takes it (`run_taken`), is
-- without it (`run_missed`), or aims it elsewhere (`run_aimed`); and what stands then (`declared_more`). And what the
-- entries tell of each run: what stands at a path that is sure (`sure_stands`), where a name leads (`leads_there`,
-- `leads_nowhere`), and what an Alias of it stands for where it isn't open (`aims_alike`).
use Rattle.std.specs.Prelude.{◌||◌, ◌&&◌, option_to_list, slice_get, nat_lt, nat_le, ◌==◌, ◌⊎◌}
use Rattle.std.proofs.Common.{◌≡◌, ℕ, zero, suc, ◌-◌, Bool, true, false, not, cond, List, [], ◌∷◌, ◌++◌, take, length}
use Rattle.std.proofs.Common.{Option, Some, None, IfSome, is_some, refl, sym, ap, subst, ◌∙◌, arith, inl, inr, append-nil}
use Rattle.std.proofs.lemmas.Bool.{false≢true}
use Rattle.std.proofs.lemmas.Bool.Decides.{nat_tests}
use Rattle.std.proofs.lemmas.Option.{same_Some}
use Rattle.std.specs.List.{AllByRecursion, find, list_all, list_any}
use Rattle.std.specs.Option.{option_or}
use Rattle.std.specs.FinSet as set
use Rattle.aml_names.specs.declared.segments.Seg.{Seg}
use Rattle.aml_names.specs.declared.names.Name.{Name}
use Rattle.aml_names.specs.Names.{placed}
use Rattle.aml_names.specs.Searching.{candidates, upward, is_single}
use Rattle.aml_namespace.specs.Kinds.{Kind}
use Rattle.aml_namespace.specs.declared.kinds.Kind.TheVariants.{Alias}
use Rattle.aml_namespace.specs.Namespace.{Entry, Body, declares, external, given, Namespace, namespace_of, declared_at}
use Rattle.aml_namespace.specs.Namespace.{same_path, greater, outs_at, given_at, kind_at, decides, is_outside, found}
use Rattle.aml_namespace.specs.Runs.{outlook_of, kinds_at, sure_at, opens_scope, scope_in, is_alias, is_open_alias}
use Rattle.aml_namespace.specs.Runs.{open_in, first_agreed, agreed_or, agreed_path, may_miss, IsRun, ended, taken, missed}
use Rattle.aml_namespace.specs.Runs.{aimed, means, is_known}
use Rattle.aml_namespace.proofs.Agreeing.{among, unsure}
use Rattle.aml_namespace.proofs.Finding.{not_found}
use Rattle.aml_namespace.proofs.Leading.{whole_run, none_found, no_more, every_run_leads_there}
use Rattle.aml_namespace.proofs.Unmet.{first_counts}
use Rattle.aml_namespace.proofs.Showing.{same_is, none_is}

-- ---- An entry more.

run_join : {es rs fs ss : List Entry} → IsRun es rs → IsRun fs ss → IsRun (es ++ fs) (rs ++ ss)
run_join ended more = more
run_join (taken e run) more = taken e (run_join run more)
run_join (missed e may run) more = missed e may (run_join run more)
run_join (aimed p target other b sure run) more = aimed p target other b sure (run_join run more)

pub run_taken : {es rs : List Entry} → IsRun es rs → (e : Entry) → IsRun (es ++ e ∷ []) (rs ++ e ∷ [])
run_taken run e = run_join run (taken e ended)

pub run_missed : {es rs : List Entry} → IsRun es rs → (e : Entry) → may_miss e ≡ true → IsRun (es ++ e ∷ []) rs
run_missed {es = es} {rs = rs} run e may =
    subst (λ ss. IsRun (es ++ e ∷ []) ss) (append-nil rs) (run_join run (missed e may ended))

pub run_aimed : {es rs : List Entry} → IsRun es rs → (p target other : List Seg) (b : Option Body) (sure : Bool)
    → IsRun (es ++ declares p (Alias true target) b sure ∷ []) (rs ++ declares p (Alias false other) b sure ∷ [])
run_aimed run p target other b sure = run_join run (aimed p target other b sure ended)

-- a namespace in which a path has this kind too, unless it is declared there
abbrev pub declaring : Namespace → List Seg → Kind → Namespace
declaring n p k = record {
  declared = λ q. option_or (n.declared q) (cond (same_path q p) (Some k) None);
  outs = n.outs;
  givens = n.givens;
}

module _ (p : List Seg) (k : Kind) (b : Option Body) (sure : Bool) where
  declared_end : (es : List Entry) (q : List Seg)
      → declared_at (es ++ declares p k b sure ∷ []) q ≡ option_or (declared_at es q) (cond (same_path q p) (Some k) None)
  declared_end [] q = refl
  declared_end (declares r l c s ∷ es) q = by (same_path q r) (declared_end es q)
    where
      by : (same : Bool) → declared_at (es ++ declares p k b sure ∷ []) q ≡ option_or (declared_at es q) (cond (same_path q p) (Some k) None)
          → cond same (Some l) (declared_at (es ++ declares p k b sure ∷ []) q)
          ≡ option_or (cond same (Some l) (declared_at es q)) (cond (same_path q p) (Some k) None)
      by true rest = refl
      by false rest = rest
  declared_end (external r n ∷ es) q = declared_end es q
  declared_end (given r n ∷ es) q = declared_end es q

  outs_end : (es : List Entry) (q : List Seg) → outs_at (es ++ declares p k b sure ∷ []) q ≡ outs_at es q
  outs_end [] q = refl
  outs_end (declares r l c s ∷ es) q = outs_end es q
  outs_end (external r n ∷ es) q = ap (λ o. cond (same_path q r) (Some (greater n o)) o) (outs_end es q)
  outs_end (given r n ∷ es) q = outs_end es q

  given_end : (es : List Entry) (q : List Seg) → given_at (es ++ declares p k b sure ∷ []) q ≡ given_at es q
  given_end [] q = refl
  given_end (declares r l c s ∷ es) q = given_end es q
  given_end (external r n ∷ es) q = given_end es q
  given_end (given r n ∷ es) q = ap (λ o. cond (same_path q r) (Some (greater n o)) o) (given_end es q)

  pub declared_more : (es : List Entry)
      → namespace_of (es ++ declares p k b sure ∷ []) ≡ declaring (namespace_of es) p k
  declared_more es = λ i. record { declared = λ q. declared_end es q i; outs = λ q. outs_end es q i; givens = λ q. given_end es q i }

-- nothing changes where the path is declared already
pub declared_twice : (n : Namespace) (p : List Seg) (k : Kind) → is_some (n.declared p) ≡ true → declaring n p k ≡ n
declared_twice n p k there =
    λ i. record { declared = λ q. by q (same_path q p) refl (n.declared q) refl i; outs = n.outs; givens = n.givens }
  where
    by : (q : List Seg) (same : Bool) → same_path q p ≡ same → (o : Option Kind) → n.declared q ≡ o
        → option_or (n.declared q) (cond same (Some k) None) ≡ n.declared q
    by q same is (Some l) at = ap (λ o. option_or o (cond same (Some k) None)) at ∙ sym at
    by q true is None at = absurd (false≢true (sym (ap is_some at) ∙ ap (λ r. is_some (n.declared r)) (same_is q p is) ∙ there))
    by q false is None at = ap (λ o. option_or o None) at ∙ sym at

-- ---- What the entries tell of a run.

some_value : {X : Type 0} (o : Option X) → is_some o ≡ true → (x : X) × (o ≡ Some x)
some_value None h = absurd (false≢true h)
some_value (Some x) h = (x, refl)

still_none : (same : Bool) (k l : Kind) (o r : Option Kind) → (is_some o ≡ false → is_some r ≡ false)
    → is_some (cond same (Some k) o) ≡ false
    → is_some (cond same (Some l) r) ≡ false
still_none true k l o r rest none = none
still_none false k l o r rest none = rest none

one_less : (same : Bool) (k : Kind) (o : Option Kind) → is_some (cond same (Some k) o) ≡ false → is_some o ≡ false
one_less true k o none = absurd (false≢true (sym none))
one_less false k o none = none

-- where a search finds nothing the first path fails its test
first_fails : (f : List Seg → Bool) (p : List Seg) (ps : List (List Seg)) → find f (p ∷ ps) ≡ None → f p ≡ false
first_fails f p ps none = by (f p) none
  where
    by : (b : Bool) → cond b (Some p) (find f ps) ≡ None → b ≡ false
    by true none = absurd (false≢true (sym (ap is_some none)))
    by false none = refl

-- what the entries don't declare no run does
pub none_declared : {es rs : List Entry} → IsRun es rs → (q : List Seg) → is_some (declared_at es q) ≡ false
    → is_some (declared_at rs q) ≡ false
none_declared ended q none = none
none_declared (taken (declares p k b sure) run) q none =
    still_none (same_path q p) k k _ _ (none_declared run q) none
none_declared (taken (external p n) run) q none = none_declared run q none
none_declared (taken (given p n) run) q none = none_declared run q none
none_declared (missed (declares p k b sure) may run) q none =
    none_declared run q (one_less (same_path q p) k _ none)
none_declared (missed (external p n) may run) q none = none_declared run q none
none_declared (missed (given p n) may run) q none = none_declared run q none
none_declared (aimed p target other b sure run) q none =
    still_none (same_path q p) (Alias true target) (Alias false other) _ _ (none_declared run q) none

module _ (es rs : List Entry) (run : IsRun es rs) where
  -- what stands at a path that is sure
  pub sure_stands : (p : List Seg) → sure_at es p ≡ true → is_some (kind_at (namespace_of rs) p) ≡ true
  sure_stands p sure = by (kind_at (namespace_of rs) p) refl
    where
      by : (o : Option Kind) → kind_at (namespace_of rs) p ≡ o → is_some o ≡ true
      by None none = absurd (false≢true (sym (unsure es rs run p none) ∙ sure))
      by (Some k) at = refl

  every_listed : (f : Kind → Bool) (ks : List Kind) → list_all f ks ≡ true → AllByRecursion (λ k. f k ≡ true) ks
  every_listed f [] all = tt
  every_listed f (k ∷ ks) all = by (f k) refl all (every_listed f ks)
    where
      by : (b : Bool) → f k ≡ b → (b && list_all f ks) ≡ true → (list_all f ks ≡ true → AllByRecursion (λ k. f k ≡ true) ks)
          → AllByRecursion (λ k. f k ≡ true) (k ∷ ks)
      by true holds all rest = (holds, rest all)
      by false fails all rest = absurd (false≢true all)

  -- a path that a Scope may open in every run
  pub opens_there : (p : List Seg) → scope_in (outlook_of es) p ≡ true
      → (k : Kind) × (kind_at (namespace_of rs) p ≡ Some k) × (opens_scope k ≡ true)
  opens_there p h = by (sure_at es p) refl h
    where
      by : (sure : Bool) → sure_at es p ≡ sure → (sure && list_all opens_scope (kinds_at es p)) ≡ true
          → (k : Kind) × (kind_at (namespace_of rs) p ≡ Some k) × (opens_scope k ≡ true)
      by true sure all =
          let k = some_value (kind_at (namespace_of rs) p) (sure_stands p sure) in (
            k.0,
            k.1,
            subst (λ o. IfSome o (λ l. opens_scope l ≡ true)) k.1
                (among es rs run p (λ l. opens_scope l ≡ true) (λ t u h. h) (every_listed opens_scope (kinds_at es p) all)),
          )
      by false sure all = absurd (false≢true all)

-- a search of the candidates finds the path where a name is placed
found_upward : (f : List Seg → Bool) (n : ℕ) (scope segment : List Seg) → find f (upward n scope segment) ≡ None
    → f (take n scope ++ segment) ≡ false
found_upward f zero scope segment none = first_fails f segment [] none
found_upward f (suc n) scope segment none = first_fails f (take (suc n) scope ++ segment) (upward n scope segment) none

both : (a b : Bool) → (a && b) ≡ true → (a ≡ true) × (b ≡ true)
both true b h = (refl, h)
both false b h = absurd (false≢true h)

not_so : (a : Bool) → not a ≡ true → a ≡ false
not_so true h = absurd (false≢true h)
not_so false h = refl

placed_fails : (f : List Seg → Bool) (scope : List Seg) (name : Name) (p : List Seg) → placed scope name ≡ Some p
    → find f (candidates scope name) ≡ None → f p ≡ false
placed_fails f scope name p at none = by (is_single name) refl none
  where
    by : (single : Bool) → is_single name ≡ single
        → find f (cond single (upward (length scope) scope name.segs) (option_to_list (placed scope name))) ≡ None → f p ≡ false
    by true single none =
        let plain = both (not name.root) ((name.ups == 0) && (length name.segs == 1)) single in
        let bare = both (name.ups == 0) (length name.segs == 1) plain.1 in
        let ups : name.ups ≡ 0 = (let h = bare.0 in grind (arith, nat_tests)) in
        let within : nat_le 0 (length scope) ≡ true = grind (arith, nat_tests) in
        let here : Some (take (length scope - 0) scope ++ name.segs) ≡ Some p =
        sym ((λ i. cond (not_so name.root plain.0 i) (Some name.segs)
        (cond (nat_le (ups i) (length scope)) (Some (take (length scope - ups i) scope ++ name.segs)) None))
        ∙ ap (λ b. cond b (Some (take (length scope - 0) scope ++ name.segs)) None) within) ∙ at in
        let whole : length scope - 0 ≡ length scope = omega arith in
        let same : take (length scope) scope ++ name.segs ≡ p = ap (λ n. take n scope ++ name.segs) (sym whole) ∙ same_Some _ _ here in
        ap f (sym same) ∙ found_upward f (length scope) scope name.segs none
    by false single none = first_fails f p [] (ap (λ o. find f (option_to_list o)) (sym at) ∙ none)

no_kind : (es : List Entry) (p : List Seg) → decides (namespace_of es) set.empty p ≡ false
    → is_some (kind_at (namespace_of es) p) ≡ false
no_kind es p h = by (set.contains set.empty p) (is_some (kind_at (namespace_of es) p)) h
  where
    by : (local kind : Bool) → (local || kind) ≡ false → kind ≡ false
    by true kind h = absurd (false≢true (sym h))
    by false kind h = h

none_decides : (es : List Entry) (scope : List Seg) (name : Name) → found (namespace_of es) set.empty scope name ≡ None
    → find (decides (namespace_of es) set.empty) (candidates scope name) ≡ None
none_decides es scope name none = by (find (decides (namespace_of es) set.empty) (candidates scope name)) none
  where
    by : (o : Option (List Seg)) → option_or o (find (is_outside (namespace_of es)) (candidates scope name)) ≡ None → o ≡ None
    by None none = refl
    by (Some p) none = absurd (false≢true (sym (ap is_some none)))

-- where a name leads nowhere, the path where it is placed isn't sure
pub placed_unsure : (es : List Entry) (scope : List Seg) (name : Name) (p : List Seg) → placed scope name ≡ Some p
    → found (namespace_of es) set.empty scope name ≡ None
    → sure_at es p ≡ false
placed_unsure es scope name p at none = unsure es es (whole_run es) p (none_is (kind_at (namespace_of es) p) (no_kind es p
    (placed_fails (decides (namespace_of es) set.empty) scope name p at (none_decides es scope name none))))

module _ (es rs : List Entry) (run : IsRun es rs) (scope : List Seg) (name : Name) where
  -- it leads nowhere in a run
  pub leads_nowhere : found (namespace_of es) set.empty scope name ≡ None → means (namespace_of rs) scope name ≡ None
  leads_nowhere none = none_found (decides (namespace_of es) set.empty) (λ p. is_some (kind_at (namespace_of rs) p))
      (λ p h. no_more es rs run p (no_kind es p h)) (candidates scope name)
      (ap is_some (none_decides es scope name none))

  agreed_fails : (f : List Seg → Bool) (ps : List (List Seg)) (p : List Seg)
      → first_agreed (outlook_of es) ps ≡ Some (Some p) → find f ps ≡ None → f p ≡ false
  agreed_fails f [] p is none = absurd (false≢true (ap is_some is))
  agreed_fails f (q ∷ ps) p is none =
      by (f q) refl (is_some (kind_at (namespace_of es) q)) (sure_at es q || not (is_some (find (is_known (namespace_of es)) ps)))
      (agreed_fails f ps p) is none
    where
      by : (b : Bool) → f q ≡ b → (kind agreed : Bool)
          → (first_agreed (outlook_of es) ps ≡ Some (Some p) → find f ps ≡ None → f p ≡ false)
          → cond kind (Some (cond agreed (Some q) None)) (first_agreed (outlook_of es) ps) ≡ Some (Some p)
          → cond b (Some q) (find f ps) ≡ None → f p ≡ false
      by true holds kind agreed rest is none = absurd (false≢true (sym (ap is_some none)))
      by false fails true true rest is none = ap f (sym (same_Some q p (same_Some (Some q) (Some p) is))) ∙ fails
      by false fails true false rest is none = absurd (false≢true (ap is_some (same_Some None (Some p) is)))
      by false fails false agreed rest is none = rest is none

  path_fails : (f : List Seg → Bool) (p : List Seg) → agreed_path (outlook_of es) scope name ≡ Some p
      → find f (candidates scope name) ≡ None → f p ≡ false
  path_fails f p is none = by (first_agreed (outlook_of es) (candidates scope name)) refl is
    where
      by : (o : Option (Option (List Seg))) → first_agreed (outlook_of es) (candidates scope name) ≡ o
          → agreed_or o (find (is_outside (namespace_of es)) (candidates scope name)) ≡ Some p → f p ≡ false
      by None first is = not_found f (is_outside (namespace_of es)) (candidates scope name) p none is
      by (Some o) first is = agreed_fails f (candidates scope name) p (first ∙ ap Some is) none

  -- Where it is told where it leads, it leads there in a run, or nowhere, and then the path isn't sure.
  pub leads_there : (p : List Seg) → agreed_path (outlook_of es) scope name ≡ Some p
      → (means (namespace_of rs) scope name ≡ Some p) ⊎ ((means (namespace_of rs) scope name ≡ None) × (sure_at es p ≡ false))
  leads_there p is = by (means (namespace_of rs) scope name) refl (every_run_leads_there es rs run scope name p is)
    where
      by : (o : Option (List Seg)) → means (namespace_of rs) scope name ≡ o → IfSome o (λ q. q ≡ p)
          → (means (namespace_of rs) scope name ≡ Some p) ⊎ ((means (namespace_of rs) scope name ≡ None) × (sure_at es p ≡ false))
      by None none there = inr (
        none,
        unsure es rs run p (none_is (kind_at (namespace_of rs) p)
            (path_fails (λ q. is_some (kind_at (namespace_of rs) q)) p is none)),
      )
      by (Some q) at there = inl (at ∙ ap Some there)

-- ---- What an Alias stands for.

any_none : (f : Kind → Bool) (ks : List Kind) → list_any f ks ≡ false → AllByRecursion (λ k. f k ≡ false) ks
any_none f [] none = tt
any_none f (k ∷ ks) none = by (f k) refl none (any_none f ks)
  where
    by : (b : Bool) → f k ≡ b → (b || list_any f ks) ≡ false
        → (list_any f ks ≡ false → AllByRecursion (λ k. f k ≡ false) ks) → AllByRecursion (λ k. f k ≡ false) (k ∷ ks)
    by true holds none rest = absurd (false≢true (sym none))
    by false fails none rest = (fails, rest none)

-- none of these kinds is an Alias
abbrev pub NoAliases : List Kind → Type 0
NoAliases ks = AllByRecursion (λ k. is_alias k ≡ false) ks

-- where an Alias of what may be one of these kinds isn't open, none of them is an Alias, or the only one is
alone : (ks : List Kind) → list_any (λ k. is_alias k && (nat_lt 1 (length ks) || is_open_alias k)) ks ≡ false
    → NoAliases ks ⊎ ((target : List Seg) × (ks ≡ Alias false target ∷ []))
alone [] closed = inl tt
alone (Alias true target ∷ []) closed = absurd (false≢true (sym closed))
alone (Alias false target ∷ []) closed = inr (target, refl)
alone (k ∷ []) closed = inl (refl, tt)
alone (k ∷ l ∷ ms) closed = inl (weaker (k ∷ l ∷ ms) (any_none _ (k ∷ l ∷ ms) closed))
  where
    many : nat_lt 1 (length (k ∷ l ∷ ms)) ≡ true
    many = grind (arith, nat_tests)

    one : (alias here is_open : Bool) → here ≡ true → (alias && (here || is_open)) ≡ false → alias ≡ false
    one true true is_open is none = absurd (false≢true (sym none))
    one true false is_open is none = absurd (false≢true is)
    one false here is_open is none = refl

    weaker : (ns : List Kind)
        → AllByRecursion (λ n. (is_alias n && (nat_lt 1 (length (k ∷ l ∷ ms)) || is_open_alias n)) ≡ false) ns → NoAliases ns
    weaker [] none = tt
    weaker (n ∷ ns) none = (one (is_alias n) (nat_lt 1 (length (k ∷ l ∷ ms))) (is_open_alias n) many none.0, weaker ns none.1)

module _ (es rs : List Entry) (run : IsRun es rs) where
  -- What an Alias of a path stands for that isn't open: in a run the path is no Alias, as among all entries, or the very
  -- one that it is there.
  pub aims_alike : (p : List Seg) → open_in (outlook_of es) p ≡ false → (k : Kind) → kind_at (namespace_of rs) p ≡ Some k
      → ((is_alias k ≡ false) × IfSome (kind_at (namespace_of es) p) (λ l. is_alias l ≡ false))
      ⊎ (kind_at (namespace_of es) p ≡ Some k)
  aims_alike p closed k at = by (kinds_at es p) refl (alone (kinds_at es p) closed)
    where
      first_is : (ks : List Kind) → kinds_at es p ≡ ks → kind_at (namespace_of es) p ≡ slice_get ks 0
      first_is ks is = (first_counts es).first p ∙ ap (λ ls. slice_get ls 0) is

      first_none : (ks : List Kind) → NoAliases ks → IfSome (slice_get ks 0) (λ l. is_alias l ≡ false)
      first_none [] none = tt
      first_none (l ∷ ls) none = none.0

      same : (target : List Seg) → kinds_at es p ≡ Alias false target ∷ [] → k ≡ Alias false target
      same target is = subst (λ o. IfSome o (λ l. l ≡ Alias false target)) at
          (among es rs run p (λ l. l ≡ Alias false target) (λ t u h. absurd (false≢true (sym (ap is_open_alias h))))
          (subst (AllByRecursion (λ l. l ≡ Alias false target)) (sym is) (refl, tt)))

      by : (ks : List Kind) → kinds_at es p ≡ ks → NoAliases ks ⊎ ((target : List Seg) × (ks ≡ Alias false target ∷ []))
          → ((is_alias k ≡ false) × IfSome (kind_at (namespace_of es) p) (λ l. is_alias l ≡ false))
          ⊎ (kind_at (namespace_of es) p ≡ Some k)
      by ks is (inl none) = inl (
        subst (λ o. IfSome o (λ l. is_alias l ≡ false)) at
            (among es rs run p (λ l. is_alias l ≡ false) (λ t u h. h) (subst NoAliases (sym is) none)),
        subst (λ o. IfSome o (λ l. is_alias l ≡ false)) (sym (first_is ks is)) (first_none ks none),
      )
      by ks is (inr (target, one)) = inr (first_is ks is ∙ ap (λ ls. slice_get ls 0) one ∙ sym (ap Some (same target (is ∙ one))))
