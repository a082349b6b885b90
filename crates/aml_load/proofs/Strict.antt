-- In tables whose code outside methods may not run each declaration is sure, and each path is declared at most once.
use Rattle.std.proofs.Common.{◌≡◌, ◌≤◌, ℕ, suc, ◌+◌, Bool, true, false, cond, List, [], ◌∷◌, ◌++◌, Option, Some, None}
use Rattle.std.proofs.Common.{Result, Ok, Err, is_some, not}
use Rattle.std.proofs.Common.{refl, sym, ap, subst, arith, is_eq, Ordering, Less, Equal, Greater, nat_le, length}
use Rattle.std.specs.Prelude.{IfOk}
use Rattle.aml_names.specs.declared.segments.Seg.{Seg}
use Rattle.aml_names.specs.declared.names.Name.{Name}
use Rattle.aml_code.specs.declared.rows.Object.{Object}
use Rattle.aml_code.specs.declared.rows.Object.TheVariants as objects
use Rattle.aml_code.specs.declared.rows.Role.{Role}
use Rattle.aml_code.specs.declared.rows.Role.TheVariants as roles
use Rattle.aml_code.specs.Tree.{Tree, op, Trees, no_trees, tree_more, Parts, Tail, terms}
use Rattle.aml_code.specs.Lawful.{last_label, field_names}
use Rattle.aml_names.specs.Paths.{path_cmp, exact_paths}
use Rattle.aml_namespace.specs.Kinds.{Kind}
use Rattle.aml_namespace.specs.declared.kinds.Kind.TheVariants as kinds
use Rattle.aml_namespace.specs.Namespace.{Entry, Body, Givens, declares, external, given, given_entries, same_path}
use Rattle.aml_namespace.specs.Namespace.{declared_at}
use Rattle.aml_namespace.specs.Runs.{is_open_alias, AreSure, StaysAsItIs, times_at}
use Rattle.aml_namespace.proofs.Strict.{never_open}
use Rattle.aml_load.specs.declared.faults.LoadFault.{LoadFault}
use Rattle.aml_load.specs.Declaring.{◌>>=◌, Listed, first_listed, with_uses, byte_of, first_label, most_methods}
use Rattle.aml_load.specs.Declaring.{place_at, lead_at, entry_at, new_at, method_at, alias_at, external_at, units_at}
use Rattle.aml_load.specs.Running.{Front, table_front, opened_at, object_at, scope_at, flat_at, enter_as, entered_at}
use Rattle.aml_load.specs.Running.{behind_tree, behind_inside, behind_trees}
use Rattle.aml_load.proofs.Doing.{entry_is, site_in, front_in}
use Rattle.aml_load.specs.Loading.{role_of, kind_of, Where, methods_of, plain_entry}
use Rattle.aml_load.specs.Tables.{ReadTables, LoadsStrictly}
use Rattle.aml_load.proofs.Relating.{loads_so}

-- ---- entries more

sure_more : (es : List Entry) (x : Entry) → AreSure es → AreSure (x ∷ []) → AreSure (es ++ x ∷ [])
sure_more [] x h one = one
sure_more (declares p k b sure ∷ es) x h one = (h.0, h.1, sure_more es x h.2 one)
sure_more (external p n ∷ es) x h one = sure_more es x h one
sure_more (given p n ∷ es) x h one = sure_more es x h one

one_time : (same : Bool) (a b n : ℕ) → a ≡ b + n → cond same (a + 1) a ≡ cond same (b + 1) b + n
one_time true a b n h = omega arith
one_time false a b n h = h

times_more : (es : List Entry) (x : Entry) (q : List Seg)
    → times_at (es ++ x ∷ []) q ≡ times_at es q + times_at (x ∷ []) q
times_more [] x q = omega arith
times_more (declares p k b sure ∷ es) x q = one_time (same_path q p) _ _ (times_at (x ∷ []) q) (times_more es x q)
times_more (external p n ∷ es) x q = times_more es x q
times_more (given p n ∷ es) x q = times_more es x q

never : (same : Bool) (k : Kind) (o : Option Kind) (n : ℕ) → is_some (cond same (Some k) o) ≡ false
    → (is_some o ≡ false → n ≡ 0) → cond same (n + 1) n ≡ 0
never true k o n h rest = absurd cc
never false k o n h rest = rest h

undeclared : (es : List Entry) (q : List Seg) → is_some (declared_at es q) ≡ false → times_at es q ≡ 0
undeclared [] q h = refl
undeclared (declares p k b sure ∷ es) q h = never (same_path q p) k (declared_at es q) (times_at es q) h (undeclared es q)
undeclared (external p n ∷ es) q h = undeclared es q h
undeclared (given p n ∷ es) q h = undeclared es q h

is_equal : (o : Ordering) → is_eq o ≡ true → o ≡ Equal
is_equal Less h = absurd cc
is_equal Equal h = refl
is_equal Greater h = absurd cc

same_is : (p q : List Seg) → same_path p q ≡ true → p ≡ q
same_is p q h = exact_paths p q (is_equal (path_cmp p q) h)

-- ---- what holds of what is listed

record Plain (es : List Entry) : Type 0 where
  sure : AreSure es
  once : (q : List Seg) → times_at es q ≤ 1

-- no kind but that of an open Alias
abbrev IsClosed : Kind → Type 0
IsClosed k = not (is_open_alias k) ≡ true

object_closed : (o : Object) → IsClosed (kind_of o)
object_closed objects.Name = refl
object_closed objects.Mutex = refl
object_closed objects.Event = refl
object_closed objects.Region = refl
object_closed objects.DataRegion = refl
object_closed objects.BufferField = refl
object_closed objects.Device = refl
object_closed objects.Processor = refl
object_closed objects.PowerResource = refl
object_closed objects.ThermalZone = refl

-- a path that wasn't declared
declared_plain : (es : List Entry) (p : List Seg) (k : Kind) (b : Option Body) → IsClosed k
    → is_some (declared_at es p) ≡ false → Plain es
    → Plain (es ++ declares p k b true ∷ [])
declared_plain es p k b closed free h = record {
  sure = sure_more es (declares p k b true) h.sure (refl, closed, tt);
  once = λ q. by q (same_path q p) refl;
}
  where
    by : (q : List Seg) (same : Bool) → same_path q p ≡ same → times_at (es ++ declares p k b true ∷ []) q ≤ 1
    by q true is =
        let none : times_at es q ≡ 0 = subst (λ (r : List Seg). times_at es r ≡ 0) (sym (same_is q p is)) (undeclared es p free) in
        let one : times_at (declares p k b true ∷ []) q ≡ 1 = ap (λ (s : Bool). cond s (0 + 1) 0) is in
        omega (arith, times_more es (declares p k b true) q, none, one)
    by q false is =
        let none : times_at (declares p k b true ∷ []) q ≡ 0 = ap (λ (s : Bool). cond s (0 + 1) 0) is in
        omega (arith, times_more es (declares p k b true) q, none, h.once q)

external_plain : (es : List Entry) (p : List Seg) (n : ℕ) → Plain es → Plain (es ++ external p n ∷ [])
external_plain es p n h = record {
  sure = sure_more es (external p n) h.sure tt;
  once = λ q. omega (arith, times_more es (external p n) q, h.once q);
}

-- ---- what a term adds, by its role

-- what a step gives is so
abbrev Keeps : Result Listed LoadFault → Type 0
Keeps r = IfOk r (λ m. Plain m.entries)

then_keeps : {A : Type 0} (r : Result A LoadFault) (f : A → Result Listed LoadFault) → ((x : A) → Keeps (f x))
    → Keeps (r >>= f)
then_keeps (Ok x) f h = h x
then_keeps (Err e) f h = tt

more_keeps : (r : Result Listed LoadFault) (f : Listed → Result Listed LoadFault) → Keeps r
    → ((m : Listed) → Plain m.entries → Keeps (f m))
    → Keeps (r >>= f)
more_keeps (Ok m) f first h = h m first
more_keeps (Err e) f first h = tt

unless_keeps : (b : Bool) (d : LoadFault) (r : Result Listed LoadFault) → (b ≡ false → Keeps r)
    → Keeps (cond b (Err d) r)
unless_keeps true d r h = tt
unless_keeps false d r h = h refl

abbrev strict : ℕ → List Seg → Where
strict t s = site_in false t s true

module _ (t : ℕ) (scope : List Seg) where
  entry_keeps : (l : Listed) (p : List Seg) (k : Kind) (b : Option Body) → IsClosed k → Plain l.entries
      → Keeps (entry_at (strict t scope) l p (declares p k b true))
  unfolding entry_at
  entry_keeps l p k b closed h = unless_keeps (is_some (declared_at l.entries p)) _ _ (λ free. declared_plain l.entries p k b closed free h)

  new_keeps : (l : Listed) (n : Option Name) (k : List Seg → Kind) (b : List Seg → Option Body)
      → ((p : List Seg) → IsClosed (k p)) → Plain l.entries
      → Keeps (new_at (strict t scope) l n (λ p. declares p (k p) (b p) true))
  unfolding new_at
  new_keeps l n k b closed h = then_keeps (place_at (strict t scope) n) _ (λ p. entry_keeps l p (k p) (b p) (closed p) h)

  units_keep : (l : Listed) (ns : List Name) → Plain l.entries → Keeps (units_at (strict t scope) l ns)
  unfolding units_at
  units_keep l [] h = h
  units_keep l (n ∷ ns) h =
      more_keeps (new_at (strict t scope) l (Some n) (plain_entry (strict t scope) l.entries kinds.Field)) _
      (new_keeps l (Some n) (λ p. kinds.Field) (λ p. None) (λ p. refl) h)
      (λ m. units_keep m ns)

  flat_keeps : (r : Role) (l : Listed) (ps : Parts) (x : Tail) → Plain l.entries → Keeps (flat_at r (strict t scope) l ps x)
  unfolding flat_at method_at alias_at external_at
  flat_keeps roles.Method l ps x h = unless_keeps (nat_le most_methods (length (methods_of l.entries))) _ _ (λ room.
      new_keeps l (last_label None ps) (λ p. kinds.Method _) (λ p. Some _) (λ p. refl) h)
  flat_keeps roles.Alias l ps x h =
      then_keeps (lead_at (strict t scope) l.entries (first_label ps) _) _ (λ q.
      new_keeps l (last_label None ps) (λ p. kinds.Alias _ _) (λ p. None) (λ p. ap not (never_open l.entries h.sure q)) h)
  flat_keeps roles.External l ps x h =
      then_keeps (place_at (strict t scope) (last_label None ps)) _ (λ p. external_plain l.entries p (byte_of ps) h)
  flat_keeps roles.Fields l ps x h = units_keep l (field_names x) h
  flat_keeps _ l ps x h = h

-- ---- terms, tables, and the whole load

then_if : {A B : Type 0} (F : A → Type 0) (G : B → Type 0) (r : Result A LoadFault) (k : A → Result B LoadFault)
    → IfOk r F → ((x : A) → F x → IfOk (k x) G) → IfOk (r >>= k) G
then_if F G (Ok x) k h g = g x h
then_if F G (Err e) k h g = tt

then_is : {A B : Type 0} (G : B → Type 0) (r : Result A LoadFault) (k : A → Result B LoadFault)
    → ((x : A) → r ≡ Ok x → IfOk (k x) G) → IfOk (r >>= k) G
then_is G (Ok x) k g = g x refl
then_is G (Err e) k g = tt

module _ (t : ℕ) where
  abbrev here : List Seg → Listed → Front
  here s l = front_in false t s true l

  -- what stands in front of terms is so, and each declaration there is sure
  abbrev Good : Front → Type 0
  Good g = Plain g.listed.entries × ((s : List Seg) × (g.site ≡ strict t s))

  abbrev GoodAt : List Seg → Front → Type 0
  GoodAt s g = Plain g.listed.entries × (g.site ≡ strict t s)

  same_front : (g : Front) (s : List Seg) → g.site ≡ strict t s → here s g.listed ≡ g
  same_front g s is = λ i. record { listed = g.listed; site = sym is i }

  enter_keeps : (r : Role) (s : List Seg) (l : Listed) (ps : Parts) (x : Tail) → Plain l.entries
      → IfOk (enter_as r (here s l) ps x) Good
  unfolding enter_as object_at scope_at flat_at
  enter_keeps (roles.Declares o) s l ps x h =
      then_is Good (place_at (strict t s) (last_label None ps)) _ (λ p at.
      let entry = plain_entry (strict t s) l.entries (kind_of o) p in
      then_is Good (entry_at (strict t s) l p entry) _ (λ m is.
      let new = entry_is (strict t s) l p entry m is in (
        subst Keeps is (entry_keeps t s l p (kind_of o) None (object_closed o) h),
        (p, ap (λ (k : Option Kind). site_in false t p (not (is_some k))) (new.0 refl)),
      )))
  enter_keeps roles.Scope s l ps x h =
      then_is Good (opened_at (strict t s) l.entries (last_label None ps)) _ (λ p at. (h, (p, refl)))
  enter_keeps roles.Guard s l ps x h = (h, (s, refl))
  enter_keeps roles.Other s l ps x h = (h, (s, refl))
  enter_keeps r s l ps x h =
      then_if (λ (m : Listed). Plain m.entries) Good (flat_at r (strict t s) l ps x) _ (flat_keeps t s r l ps x h) (λ m plain. (plain, (s, refl)))

  mutual
    unfolding behind_tree behind_inside behind_trees entered_at

    tree_keeps : (s : List Seg) (l : Listed) (x : Tree) → Plain l.entries → IfOk (behind_tree (here s l) x) (GoodAt s)
    tree_keeps s l (op o w ps r) h =
        then_if Good (GoodAt s) (enter_as (role_of o) (here s (with_uses (strict t s) l (op o w ps r))) ps r) _
        (enter_keeps (role_of o) s (with_uses (strict t s) l (op o w ps r)) ps r h) (λ inner (plain, (d, site)).
        then_if (GoodAt d) (GoodAt s) (behind_inside inner r) _
        (subst (λ (f : Front). IfOk (behind_inside f r) (GoodAt d)) (same_front inner d site) (inside_keeps d inner.listed r plain))
        (λ ended good. (good.0, refl)))
    tree_keeps s l _ h = (h, refl)

    inside_keeps : (s : List Seg) (l : Listed) (x : Tail) → Plain l.entries → IfOk (behind_inside (here s l) x) (GoodAt s)
    inside_keeps s l (terms xs) h = all_keep s l xs h
    inside_keeps s l _ h = (h, refl)

    all_keep : (s : List Seg) (l : Listed) (xs : Trees) → Plain l.entries → IfOk (behind_trees (here s l) xs) (GoodAt s)
    all_keep s l no_trees h = (h, refl)
    all_keep s l (tree_more x xs) h =
        then_if (GoodAt s) (GoodAt s) (behind_tree (here s l) x) _ (tree_keeps s l x h) (λ g good.
        subst (λ (f : Front). IfOk (behind_trees f xs) (GoodAt s)) (same_front g s good.1) (all_keep s g.listed xs good.0))

tables_keep : (t : ℕ) (l : Listed) (codes : List (List ℕ)) (trees : List Trees) (m : Listed) → Plain l.entries
    → ReadTables false t l codes trees m
    → Plain m.entries
tables_keep t l [] [] m h read = subst (λ (k : Listed). Plain k.entries) read h
tables_keep t l [] (xs ∷ rest) m h read = absurd read
tables_keep t l (c ∷ codes) [] m h read = absurd read
tables_keep t l (c ∷ codes) (xs ∷ rest) m h (k, (law, is), read) =
    tables_keep (suc t) k codes rest m (subst Keeps is (then_if (GoodAt t []) (λ (n : Listed). Plain n.entries)
    (behind_trees (table_front false t l) xs) (λ f. Ok f.listed) (all_keep t [] l xs h) (λ f good. good.0))) read

given_sure : (gs : Givens) → AreSure (given_entries gs)
given_sure [] = tt
given_sure (g ∷ gs) = given_sure gs

given_times : (gs : Givens) (q : List Seg) → times_at (given_entries gs) q ≡ 0
given_times [] q = refl
given_times (g ∷ gs) q = given_times gs q

pub loads_strictly : ((es : List Entry) → AreSure es → StaysAsItIs es)
    → (z : Bool) (gs : Givens) (tables : List (List ℕ)) → LoadsStrictly z gs tables
loads_strictly stays z gs tables trees es h =
    let lists = loads_so false z gs tables trees es h in
    let first : Plain (given_entries gs) = record { sure = given_sure gs; once = λ q. omega (arith, given_times gs q) } in
    let last = tables_keep 0 (first_listed gs) tables trees (record { entries = es; uses = lists.0 }) first lists.1.read in
    record { sure = last.sure; once = last.once; counts = stays es last.sure }
