-- What a term declares itself, by its role, beside what it does in a run (`enter_ran`); and beside a run that passes
-- over it, where nothing is sure (`enter_past`).
use Rattle.std.specs.Prelude.{◌&&◌, ◌||◌, IsSomeAnd}
use Rattle.std.proofs.Common.{◌≡◌, ℕ, ◌%◌, Bool, true, false, not, cond, List, [], ◌∷◌, ◌++◌, length, Option, Some}
use Rattle.std.proofs.Common.{None, Ok, Err, IfSome, is_some, refl, sym, ap, subst, ◌∙◌, ◌⊎◌, inl, inr, nat_le}
use Rattle.std.proofs.lemmas.Bool.{false≢true}
use Rattle.std.proofs.lemmas.Option.{same_Some}
use Rattle.std.specs.FinSet as set
use Rattle.std.specs.List.{list_all}
use Rattle.aml_names.specs.declared.segments.Seg.{Seg}
use Rattle.aml_names.specs.declared.names.Name.{Name}
use Rattle.aml_names.specs.Names.{placed}
use Rattle.aml_names.specs.Searching.{candidates}
use Rattle.aml_code.specs.declared.rows.Object.{Object}
use Rattle.aml_code.specs.declared.rows.Role.{Role}
use Rattle.aml_code.specs.declared.rows.Role.TheVariants as roles
use Rattle.aml_code.specs.Lawful.{last_label, field_names}
use Rattle.aml_code.specs.Tree.{Parts, Tail}
use Rattle.aml_namespace.specs.Kinds.{Kind}
use Rattle.aml_namespace.specs.declared.kinds.Kind.TheVariants as kinds
use Rattle.aml_namespace.specs.Namespace.{Entry, declares, external, declared_at, Namespace, namespace_of, kind_at}
use Rattle.aml_namespace.specs.Namespace.{found, target_by}
use Rattle.aml_namespace.specs.Runs.{outlook_of, opens_scope, scope_in, is_alias, open_in, sure_at, agreed_path, means}
use Rattle.aml_namespace.specs.Runs.{kinds_at, may_miss}
use Rattle.aml_namespace.proofs.Finding.{found_holds}
use Rattle.aml_namespace.proofs.Growing.{none_declared, opens_there, placed_unsure, leads_nowhere, leads_there}
use Rattle.aml_namespace.proofs.Growing.{aims_alike}
use Rattle.aml_load.specs.Declaring.{◌>>=◌, Listed, plus, byte_of, body_span, first_label, target_of, place_at, lead_at}
use Rattle.aml_load.specs.Declaring.{entry_at, new_at, method_at, alias_at, external_at, units_at, lead_of}
use Rattle.aml_load.specs.Declaring.{most_methods}
use Rattle.aml_load.specs.Loading.{kind_of, parent_of, sure_here, sure_with, plain_entry, method_entry}
use Rattle.aml_load.specs.Loading.{alias_entry, methods_of}
use Rattle.aml_load.specs.declared.faults.LoadFault.TheVariants as loads
use Rattle.aml_load.specs.Running.{Front, opened_by, opened_at, object_at, scope_at, flat_at, enter_as}
use Rattle.aml_load.proofs.Doing.{bound, value_is, run_site as site_at, front, is_flat}
use Rattle.aml_runs.specs.TableRuns.{RunsInside, is_passed, with_path, gained, gained_at, path_in, found_in}
use Rattle.aml_runs.specs.TableRuns.{units_gained, alias_gained, RunsObject, may_open, RunsScope, RunsAs, IsSelection}
use Rattle.aml_runs.proofs.Selecting.{missed, declared_too, aimed_too, stands_above, passed_over, gained_too}

-- ---- In front of a term, where the code outside methods may run.

-- What a term does beside a run: it goes into the terms inside it, as the run does; it goes into them and the run
-- passes over them, where nothing is sure; or there are none.
pub data Enters (r : Role) (t : ℕ) (inside : RunsInside) (m : List Entry) (inner : Front) : Type 0 where
  inwards : (whole : Bool) (s : List Seg) (b : Bool) (l : Listed) (n : List Entry) → inner ≡ front t s b l
      → (whole ≡ false → b ≡ false) → IsSelection l.entries n → inside whole s n m → Enters r t inside m inner
  past : (s : List Seg) (l : Listed) → inner ≡ front t s false l → IsSelection l.entries m → Enters r t inside m inner
  flat : is_flat r ≡ true → IsSelection inner.listed.entries m → Enters r t inside m inner

-- ---- The parts of a test.

second : (a b : Bool) → (a && (b && true)) ≡ true → b ≡ true
second true true h = refl
second true false h = absurd (false≢true h)
second false b h = absurd (false≢true h)

second_of : (a b c : Bool) → (a && (b && (c && true))) ≡ true → b ≡ true
second_of true true c h = refl
second_of true false c h = absurd (false≢true h)
second_of false b c h = absurd (false≢true h)

third_fails : (a b c : Bool) → c ≡ false → (a && (b && (c && true))) ≡ false
third_fails true true c h = ap (λ d. d && true) h
third_fails true false c h = refl
third_fails false b c h = refl

last_fails : (a b : Bool) → b ≡ false → (a && b) ≡ false
last_fails true b h = h
last_fails false b h = refl

-- what no part of which holds
unless : (b : Bool) → (b ≡ true → ⊥) → b ≡ false
unless true h = absurd (h refl)
unless false h = refl

-- a name leads in n where it leads in what is kept
same_way : (s : List Seg) (es n : List Entry) (selects : IsSelection es n) (name : Name)
    → means (namespace_of n) s name ≡ means (namespace_of selects.kept) s name
same_way s es n selects name = ap (λ (m : Namespace). means m s name) selects.same

module _ (t : ℕ) (s : List Seg) (b : Bool) (l : Listed) (n : List Entry) (selects : IsSelection l.entries n) where
  -- ---- An object.

  -- what n declares is listed
  listed_too : (p : List Seg) → is_some (declared_at n p) ≡ true → is_some (declared_at l.entries p) ≡ true
  listed_too p there = by (is_some (declared_at l.entries p)) refl
    where
      by : (c : Bool) → is_some (declared_at l.entries p) ≡ c → c ≡ true
      by true is = refl
      by false is = absurd (false≢true (sym (none_declared selects.run p is)
          ∙ sym (ap (λ (m : Namespace). is_some (m.declared p)) selects.same) ∙ there))

  -- inside an object that is passed over nothing is sure
  passed_inside : (p : List Seg) → is_passed n p ≡ true
      → (sure_here (site_at t s b) l.entries p && not (is_some (declared_at l.entries p))) ≡ false
  passed_inside p passed = by (sure_here (site_at t s b) l.entries p) refl (is_some (declared_at n p)) refl passed
    where
      by : (sure : Bool) → sure_here (site_at t s b) l.entries p ≡ sure → (there : Bool) → is_some (declared_at n p) ≡ there
          → (there || not (is_some (kind_at (namespace_of n) (parent_of p)))) ≡ true
          → (sure && not (is_some (declared_at l.entries p))) ≡ false
      by false is there at passed = refl
      by true is true at passed = ap not (listed_too p at)
      by true is false at passed = absurd (false≢true (sym (ap not (stands_above l.entries n (parent_of p) selects
          (second b (sure_at l.entries (parent_of p)) is))) ∙ passed))

  object_ran : (o : Object) (k : Kind) (name : Option Name) (inside : RunsInside) (m : List Entry) (inner : Front)
      → object_at (front t s b l) name k ≡ Ok inner → RunsObject inside n (path_in s name) k m
      → Enters (roles.Declares o) t inside m inner
  unfolding object_at place_at entry_at
  object_ran o k name inside m inner is ran =
      let at = bound (place_at (site_at t s b) name) _ inner is in
      by at.0 at.2 (subst (λ p. RunsObject inside n p k m) (value_is (path_in s name) _ at.0 at.1) ran)
    where
      by : (p : List Seg)
          → (entry_at (site_at t s b) l p (plain_entry (site_at t s b) l.entries k p)
          >>= λ m. Ok (front t p (sure_here (site_at t s b) l.entries p && not (is_some (declared_at l.entries p))) m)) ≡ Ok inner
          → RunsObject inside n (Some p) k m → Enters (roles.Declares o) t inside m inner
      by p is (inl (passed, same)) =
          let e = plain_entry (site_at t s b) l.entries k p in
          let sure = sure_here (site_at t s b) l.entries p in
          let there : front t p (sure && not (is_some (declared_at l.entries p))) (plus l e) ≡ inner = cc in
          past p (plus l e) (sym there ∙ ap (λ c. front t p c (plus l e)) (passed_inside p passed))
          (subst (λ j. IsSelection (l.entries ++ e ∷ []) j) (sym same)
          (passed_over p l.entries n k None sure (second b (sure_at l.entries (parent_of p))) passed selects))
      by p is (inr (free, ran)) =
          let e = plain_entry (site_at t s b) l.entries k p in
          let sure = sure_here (site_at t s b) l.entries p in
          let there : front t p (sure && not (is_some (declared_at l.entries p))) (plus l e) ≡ inner = cc in
          inwards true p (sure && not (is_some (declared_at l.entries p))) (plus l e) (with_path n p k) (sym there)
          (λ h. absurd (false≢true (sym h))) (declared_too p l.entries n k None sure selects) ran

  -- ---- A Scope.

  sure_fails : (q : List Seg) → sure_at l.entries q ≡ false → scope_in (outlook_of l.entries) q ≡ false
  sure_fails q unsure = ap (λ c. c && list_all opens_scope (kinds_at l.entries q)) unsure

  -- a path that n has with a kind under which a Scope is passed over may not be opened in every run
  closed_there : (q : List Seg) (k : Kind) → kind_at (namespace_of n) q ≡ Some k → not (opens_scope k) ≡ true
      → scope_in (outlook_of l.entries) q ≡ false
  closed_there q k at closed = unless (scope_in (outlook_of l.entries) q) (λ h.
      let opens = opens_there l.entries selects.kept selects.run q h in
      let same : k ≡ opens.0 = same_Some k opens.0 (sym at ∙ ap (λ (m : Namespace). kind_at m q) selects.same ∙ opens.1) in
      false≢true (sym (ap not (ap opens_scope same ∙ opens.2)) ∙ closed))

  scope_past : (p : List Seg) (inside : RunsInside) (m : List Entry) (inner : Front)
      → front t p (b && scope_in (outlook_of l.entries) p) l ≡ inner → scope_in (outlook_of l.entries) p ≡ false → m ≡ n
      → Enters roles.Scope t inside m inner
  scope_past p inside m inner there closed same = past p l (sym there ∙ ap (λ c. front t p c l) (last_fails b _ closed))
      (subst (λ j. IsSelection l.entries j) (sym same) selects)

  scope_inwards : (p : List Seg) (inside : RunsInside) (m : List Entry) (inner : Front)
      → front t p (b && scope_in (outlook_of l.entries) p) l ≡ inner → RunsScope inside n (Some p) m
      → Enters roles.Scope t inside m inner
  scope_inwards p inside m inner there ran = by (kind_at (namespace_of n) p) refl ran
    where
      by : (o : Option Kind) → kind_at (namespace_of n) p ≡ o
          → IsSomeAnd o (λ k. ((may_open k ≡ true) × inside true p n m) ⊎ ((not (opens_scope k) ≡ true) × (m ≡ n)))
          → Enters roles.Scope t inside m inner
      by None at ran = absurd ran
      by (Some k) at (inl (may, ran)) = inwards true p (b && scope_in (outlook_of l.entries) p) l n (sym there)
          (λ h. absurd (false≢true (sym h))) selects ran
      by (Some k) at (inr (closed, same)) = scope_past p inside m inner there (closed_there p k at closed) same

  scope_ran : (name : Option Name) (inside : RunsInside) (m : List Entry) (inner : Front)
      → scope_at (front t s b l) name ≡ Ok inner → RunsScope inside n (found_in n s name) m
      → Enters roles.Scope t inside m inner
  unfolding scope_at opened_at place_at
  scope_ran None inside m inner is ran = absurd cc
  scope_ran (Some name) inside m inner is ran =
      let opened = bound (opened_at (site_at t s b) l.entries (Some name)) _ inner is in
      let at = bound (place_at (site_at t s b) (Some name)) _ opened.0 opened.1 in
      let there : front t opened.0 (b && scope_in (outlook_of l.entries) opened.0) l ≡ inner =
      (let h = opened.2 in cc) in
      by at.0 opened.0 (value_is (placed s name) _ at.0 at.1) there (agreed_path (outlook_of l.entries) s name) refl
      (found (namespace_of l.entries) set.empty s name) refl at.2
    where
      by : (placing p : List Seg) → placed s name ≡ Some placing
          → front t p (b && scope_in (outlook_of l.entries) p) l ≡ inner
          → (lead : Option (List Seg)) → agreed_path (outlook_of l.entries) s name ≡ lead
          → (known : Option (List Seg)) → found (namespace_of l.entries) set.empty s name ≡ known
          → opened_by t placing (is_some known) lead ≡ Ok p
          → Enters roles.Scope t inside m inner
      by placing p at there (Some q) leads known finds opens =
          let same : q ≡ p = cc in
          way (leads_there l.entries selects.kept selects.run s name p (leads ∙ ap Some same))
        where
          way : (means (namespace_of selects.kept) s name ≡ Some p)
              ⊎ ((means (namespace_of selects.kept) s name ≡ None) × (sure_at l.entries p ≡ false))
              → Enters roles.Scope t inside m inner
          way (inl is) = scope_inwards p inside m inner there (subst (λ o. RunsScope inside n o m) (same_way s l.entries n selects name ∙ is) ran)
          way (inr (none, unsure)) = scope_past p inside m inner there (sure_fails p unsure)
              (subst (λ o. RunsScope inside n o m) (same_way s l.entries n selects name ∙ none) ran)
      by placing p at there None leads (Some r) finds opens = absurd cc
      by placing p at there None leads None finds opens =
          let same : placing ≡ p = cc in
          scope_past p inside m inner there
          (sure_fails p (placed_unsure l.entries s name p (at ∙ ap Some same) finds))
          (subst (λ o. RunsScope inside n o m)
          (same_way s l.entries n selects name ∙ leads_nowhere l.entries selects.kept selects.run s name finds) ran)

-- ---- A path more.

-- an entry of a path, beside what a run declares there
abbrev Declares : List Seg → List Entry → List Entry → Kind → Entry → Type 0
Declares p es n k e = IsSelection es n → IsSelection (es ++ e ∷ []) (gained n p k)

new_ran : (t : ℕ) (s : List Seg) (b : Bool) (l k : Listed) (n : List Entry) (name : Option Name) (entry : List Seg → Entry)
    (kind : Kind) → new_at (site_at t s b) l name entry ≡ Ok k
    → ((p : List Seg) → IsSelection (l.entries ++ entry p ∷ []) (gained n p kind))
    → IsSelection k.entries (gained_at n (path_in s name) kind)
unfolding new_at place_at entry_at
new_ran t s b l k n name entry kind is each =
    let at = bound (place_at (site_at t s b) name) _ k is in
    let same : plus l (entry at.0) ≡ k = (let h = at.2 in cc) in
    subst (λ (j : Listed). IsSelection j.entries (gained_at n (path_in s name) kind)) same
    (subst (λ o. IsSelection (l.entries ++ entry at.0 ∷ []) (gained_at n o kind)) (sym (value_is (path_in s name) _ at.0 at.1))
    (each at.0))

-- the same where it may be missed
new_missed : (t : ℕ) (s : List Seg) (b : Bool) (l k : Listed) (n : List Entry) (name : Option Name) (entry : List Seg → Entry)
    → new_at (site_at t s b) l name entry ≡ Ok k → ((p : List Seg) → may_miss (entry p) ≡ true) → IsSelection l.entries n
    → IsSelection k.entries n
unfolding new_at place_at entry_at
new_missed t s b l k n name entry is may selects =
    let at = bound (place_at (site_at t s b) name) _ k is in
    let same : plus l (entry at.0) ≡ k = (let h = at.2 in cc) in
    subst (λ (j : Listed). IsSelection j.entries n) same (missed l.entries n (entry at.0) (may at.0) selects)

module _ (t : ℕ) (s : List Seg) (b : Bool) where
  method_ran : (l k : Listed) (n : List Entry) (name : Option Name) (flags : ℕ) (span : ℕ × ℕ)
      → method_at (site_at t s b) l name flags span ≡ Ok k
      → IsSelection l.entries n
      → IsSelection k.entries (gained_at n (path_in s name) (kinds.Method (flags % 8)))
  unfolding method_at
  method_ran l k n name flags span is selects = by (nat_le most_methods (length (methods_of l.entries))) is
    where
      by : (full : Bool) → cond full (Err loads.TooManyMethods) (new_at (site_at t s b) l name (method_entry (site_at t s b) l.entries flags span)) ≡ Ok k
          → IsSelection k.entries (gained_at n (path_in s name) (kinds.Method (flags % 8)))
      by true is = absurd cc
      by false is = new_ran t s b l k n name _ (kinds.Method (flags % 8)) is (λ p.
          gained_too p l.entries n (kinds.Method (flags % 8)) (kinds.Method (flags % 8)) _ _ (second b (sure_at l.entries (parent_of p))) selects
          (declared_too p l.entries n (kinds.Method (flags % 8)) _ _ selects))

  unit_ran : (l k : Listed) (n : List Entry) (name : Name)
      → new_at (site_at t s b) l (Some name) (plain_entry (site_at t s b) l.entries kinds.Field) ≡ Ok k
      → IsSelection l.entries n → IsSelection k.entries (gained_at n (placed s name) kinds.Field)
  unit_ran l k n name is selects = new_ran t s b l k n (Some name) _ kinds.Field is (λ p.
      gained_too p l.entries n kinds.Field kinds.Field _ _ (second b (sure_at l.entries (parent_of p))) selects
      (declared_too p l.entries n kinds.Field _ _ selects))

  units_ran : (l k : Listed) (n : List Entry) (names : List Name) → units_at (site_at t s b) l names ≡ Ok k
      → IsSelection l.entries n → IsSelection k.entries (units_gained n s names)
  unfolding units_at
  units_ran l k n [] is selects = let same : l ≡ k = cc in subst (λ (j : Listed). IsSelection j.entries n) same selects
  units_ran l k n (name ∷ names) is selects =
      let one = bound (new_at (site_at t s b) l (Some name) _) _ k is in
      units_ran one.0 k (gained_at n (placed s name) kinds.Field) names one.2 (unit_ran l one.0 n name one.1 selects)

  external_ran : (l k : Listed) (n : List Entry) (name : Option Name) (count : ℕ)
      → external_at (site_at t s b) l name count ≡ Ok k → IsSelection l.entries n → IsSelection k.entries n
  unfolding external_at place_at
  external_ran l k n name count is selects =
      let at = bound (place_at (site_at t s b) name) _ k is in
      let same : plus l (external at.0 count) ≡ k = (let h = at.2 in cc) in
      subst (λ (j : Listed). IsSelection j.entries n) same (missed l.entries n (external at.0 count) refl selects)

  -- ---- An Alias.

  -- of what is no Alias it stands for the path itself
  plain_target : (o : Option Kind) (q : List Seg) → IfSome o (λ l. is_alias l ≡ false) → target_by o q ≡ q
  plain_target None q plain = refl
  plain_target (Some (kinds.Alias is_open target)) q plain = absurd (false≢true (sym plain))
  plain_target (Some _) q plain = refl

  -- an Alias that isn't open stands for what it is listed with
  same_target : (es n : List Entry) (selects : IsSelection es n) (name : Name) (q : List Seg)
      → means (namespace_of selects.kept) s name ≡ Some q → open_in (outlook_of es) q ≡ false → target_of n q ≡ target_of es q
  same_target es n selects name q leads closed = ap (λ (m : Namespace). target_by (kind_at m q) q) selects.same
      ∙ by (kind_at (namespace_of selects.kept) q) refl
      (found_holds (λ p. is_some (kind_at (namespace_of selects.kept) p)) (candidates s name) q leads)
    where
      by : (o : Option Kind) → kind_at (namespace_of selects.kept) q ≡ o → is_some o ≡ true → target_by o q ≡ target_of es q
      by None at there = absurd (false≢true there)
      by (Some k) at there = way (aims_alike es selects.kept selects.run q closed k at)
        where
          way : ((is_alias k ≡ false) × IfSome (kind_at (namespace_of es) q) (λ l. is_alias l ≡ false))
              ⊎ (kind_at (namespace_of es) q ≡ Some k) → target_by (Some k) q ≡ target_of es q
          way (inl (plain, listed)) = plain_target (Some k) q plain ∙ sym (plain_target (kind_at (namespace_of es) q) q listed)
          way (inr same) = ap (λ o. target_by o q) (sym same)

  alias_too : (es n : List Entry) (selects : IsSelection es n) (name : Name) (q p : List Seg)
      → means (namespace_of selects.kept) s name ≡ Some q
      → IsSelection (es ++ alias_entry (site_at t s b) es q p ∷ []) (with_path n p (kinds.Alias false (target_of n q)))
  alias_too es n selects name q p leads = by (open_in (outlook_of es) q) refl
    where
      sure : Bool
      sure = sure_with (site_at t s b) es (parent_of p ∷ q ∷ [])

      by : (is_open : Bool) → open_in (outlook_of es) q ≡ is_open
          → IsSelection (es ++ declares p (kinds.Alias is_open (target_of es q)) None sure ∷ []) (with_path n p (kinds.Alias false (target_of n q)))
      by true opens = aimed_too p es n (target_of es q) (target_of n q) None sure selects
      by false closed = subst (λ target. IsSelection (es ++ declares p (kinds.Alias false (target_of es q)) None sure ∷ []) (with_path n p (kinds.Alias false target)))
          (sym (same_target es n selects name q leads closed))
          (declared_too p es n (kinds.Alias false (target_of es q)) None sure selects)

  alias_ran : (l k : Listed) (n : List Entry) (source name : Option Name) → alias_at (site_at t s b) l source name ≡ Ok k
      → IsSelection l.entries n
      → IsSelection k.entries (alias_gained n (path_in s name) (found_in n s source))
  unfolding alias_at lead_at
  alias_ran l k n source name is selects =
      let lead = bound (lead_at (site_at t s b) l.entries source _) _ k is in
      let at = bound (place_at (site_at t s b) source) _ lead.0 lead.1 in
      by source lead.0 (value_is (lead_of (site_at t s b) l.entries source) _ lead.0 at.2) lead.2
    where
      by : (source : Option Name) (q : List Seg) → lead_of (site_at t s b) l.entries source ≡ Some q
          → new_at (site_at t s b) l name (alias_entry (site_at t s b) l.entries q) ≡ Ok k
          → IsSelection k.entries (alias_gained n (path_in s name) (found_in n s source))
      by None q leads is = absurd cc
      by (Some src) q leads is = way (leads_there l.entries selects.kept selects.run s src q leads)
        where
          way : (means (namespace_of selects.kept) s src ≡ Some q)
              ⊎ ((means (namespace_of selects.kept) s src ≡ None) × (sure_at l.entries q ≡ false))
              → IsSelection k.entries (alias_gained n (path_in s name) (means (namespace_of n) s src))
          way (inl there) = subst (λ o. IsSelection k.entries (alias_gained n (path_in s name) o)) (sym (same_way s l.entries n selects src ∙ there))
              (new_ran t s b l k n name _ (kinds.Alias false (target_of n q)) is (λ p.
              gained_too p l.entries n _ (kinds.Alias false (target_of n q)) None _ (second_of b (sure_at l.entries (parent_of p)) (sure_at l.entries q)) selects
              (alias_too l.entries n selects src q p there)))
          way (inr (none, unsure)) = subst (λ o. IsSelection k.entries (alias_gained n (path_in s name) o)) (sym (same_way s l.entries n selects src ∙ none))
              (new_missed t s b l k n name _ is (λ p. ap not (third_fails b (sure_at l.entries (parent_of p)) (sure_at l.entries q) unsure)) selects)

-- ---- By the role of a term.

module _ (t : ℕ) (s : List Seg) (l : Listed) (n : List Entry) (selects : IsSelection l.entries n) (ps : Parts) (inner : Front) where
  flat_ran : (r : Role) (b : Bool) (inside : RunsInside) (m j : List Entry) (k : Listed) → is_flat r ≡ true
      → front t s b k ≡ inner → m ≡ j → IsSelection k.entries j → Enters r t inside m inner
  flat_ran r b inside m j k bare there same selects = flat bare
      (subst (λ (f : Front). IsSelection f.listed.entries m) there (subst (λ i. IsSelection k.entries i) (sym same) selects))

  pub enter_ran : (r : Role) (b : Bool) (m : List Entry) (x y : Tail) (inside : RunsInside) → field_names y ≡ field_names x
      → enter_as r (front t s b l) ps x ≡ Ok inner → RunsAs r inside s n ps y m → Enters r t inside m inner
  unfolding enter_as flat_at
  enter_ran (roles.Declares o) b m x y inside names is ran =
      object_ran t s b l n selects o (kind_of o) (last_label None ps) inside m inner is ran
  enter_ran roles.Scope b m x y inside names is ran = scope_ran t s b l n selects (last_label None ps) inside m inner is ran
  enter_ran roles.Guard b m x y inside names is ran =
      let there : front t s false l ≡ inner = cc in inwards false s false l n (sym there) (λ _. refl) selects ran
  enter_ran roles.Other b m x y inside names is ran =
      let there : front t s false l ≡ inner = cc in inwards false s false l n (sym there) (λ _. refl) selects ran
  enter_ran roles.Method b m x y inside names is ran =
      let k = bound (method_at (site_at t s b) l (last_label None ps) (byte_of ps) (body_span x)) _ inner is in
      let there : front t s b k.0 ≡ inner = (let h = k.2 in cc) in
      flat_ran roles.Method b inside m _ k.0 refl there ran (method_ran t s b l k.0 n (last_label None ps) (byte_of ps) (body_span x) k.1 selects)
  enter_ran roles.Alias b m x y inside names is ran =
      let k = bound (alias_at (site_at t s b) l (first_label ps) (last_label None ps)) _ inner is in
      let there : front t s b k.0 ≡ inner = (let h = k.2 in cc) in
      flat_ran roles.Alias b inside m _ k.0 refl there ran (alias_ran t s b l k.0 n (first_label ps) (last_label None ps) k.1 selects)
  enter_ran roles.External b m x y inside names is ran =
      let k = bound (external_at (site_at t s b) l (last_label None ps) (byte_of ps)) _ inner is in
      let there : front t s b k.0 ≡ inner = (let h = k.2 in cc) in
      flat_ran roles.External b inside m n k.0 refl there ran (external_ran t s b l k.0 n (last_label None ps) (byte_of ps) k.1 selects)
  enter_ran roles.Fields b m x y inside names is ran =
      let k = bound (units_at (site_at t s b) l (field_names x)) _ inner is in
      let there : front t s b k.0 ≡ inner = (let h = k.2 in cc) in
      flat_ran roles.Fields b inside m _ k.0 refl there (ran ∙ ap (units_gained n s) names) (units_ran t s b l k.0 n (field_names x) k.1 selects)

-- ---- Beside a run that passes over the term, where nothing is sure.

abbrev pub Passes : ℕ → List Entry → Front → Type 0
Passes t n inner = (s : List Seg) × (l : Listed) × (inner ≡ front t s false l) × IsSelection l.entries n

units_missed : (t : ℕ) (s : List Seg) (l k : Listed) (n : List Entry) (names : List Name)
    → units_at (site_at t s false) l names ≡ Ok k → IsSelection l.entries n
    → IsSelection k.entries n
unfolding units_at
units_missed t s l k n [] is selects = let same : l ≡ k = cc in subst (λ (j : Listed). IsSelection j.entries n) same selects
units_missed t s l k n (name ∷ names) is selects =
    let one = bound (new_at (site_at t s false) l (Some name) _) _ k is in
    units_missed t s one.0 k n names one.2 (new_missed t s false l one.0 n (Some name) _ one.1 (λ p. refl) selects)

module _ (t : ℕ) (s : List Seg) (l : Listed) (n : List Entry) (selects : IsSelection l.entries n) (ps : Parts) (inner : Front) where
  flat_past : (k : Listed) → front t s false k ≡ inner → IsSelection k.entries n → Passes t n inner
  flat_past k there selects = (s, k, sym there, selects)

  pub enter_past : (r : Role) (x : Tail) → enter_as r (front t s false l) ps x ≡ Ok inner → Passes t n inner
  unfolding enter_as flat_at object_at scope_at entry_at method_at alias_at
  enter_past (roles.Declares o) x is =
      let at = bound (place_at (site_at t s false) (last_label None ps)) _ inner is in
      let e = plain_entry (site_at t s false) l.entries (kind_of o) at.0 in
      let there : front t at.0 false (plus l e) ≡ inner = (let h = at.2 in cc) in
      (at.0, plus l e, sym there, missed l.entries n e refl selects)
  enter_past roles.Scope x is =
      let opened = bound (opened_at (site_at t s false) l.entries (last_label None ps)) _ inner is in
      let there : front t opened.0 false l ≡ inner = (let h = opened.2 in cc) in
      (opened.0, l, sym there, selects)
  enter_past roles.Guard x is = let there : front t s false l ≡ inner = cc in (s, l, sym there, selects)
  enter_past roles.Other x is = let there : front t s false l ≡ inner = cc in (s, l, sym there, selects)
  enter_past roles.Method x is =
      let k = bound (method_at (site_at t s false) l (last_label None ps) (byte_of ps) (body_span x)) _ inner is in
      let there : front t s false k.0 ≡ inner = (let h = k.2 in cc) in
      flat_past k.0 there (by k.0 (nat_le most_methods (length (methods_of l.entries))) k.1)
    where
      by : (k : Listed) (full : Bool) → cond full (Err loads.TooManyMethods)
          (new_at (site_at t s false) l (last_label None ps) (method_entry (site_at t s false) l.entries (byte_of ps) (body_span x))) ≡ Ok k
          → IsSelection k.entries n
      by k true is = absurd cc
      by k false is = new_missed t s false l k n (last_label None ps) _ is (λ p. refl) selects
  enter_past roles.Alias x is =
      let k = bound (alias_at (site_at t s false) l (first_label ps) (last_label None ps)) _ inner is in
      let there : front t s false k.0 ≡ inner = (let h = k.2 in cc) in
      let lead = bound (lead_at (site_at t s false) l.entries (first_label ps) _) _ k.0 k.1 in
      flat_past k.0 there (new_missed t s false l k.0 n (last_label None ps) _ lead.2 (λ p. refl) selects)
  enter_past roles.External x is =
      let k = bound (external_at (site_at t s false) l (last_label None ps) (byte_of ps)) _ inner is in
      let there : front t s false k.0 ≡ inner = (let h = k.2 in cc) in
      flat_past k.0 there (external_ran t s false l k.0 n (last_label None ps) (byte_of ps) k.1 selects)
  enter_past roles.Fields x is =
      let k = bound (units_at (site_at t s false) l (field_names x)) _ inner is in
      let there : front t s false k.0 ≡ inner = (let h = k.2 in cc) in
      flat_past k.0 there (units_missed t s l k.0 n (field_names x) k.1 selects)
