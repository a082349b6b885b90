-- The walk over terms by their heads declares what they declare, but for the names that are asked, and meets the terms
-- that stand there.
use Rattle.std.proofs.Common.{◌≡◌, ℕ, suc, Bool, true, false, not, ◌&&◌, cond, List, [], ◌∷◌, Option, Some, None, Result, Ok, Err}
use Rattle.std.proofs.Common.{inl, inr, is_some, nat_le, length, refl, sym, ap, ap₂, ◌∙◌, ◌++◌}
use Rattle.aml_names.specs.declared.names.Name.{Name}
use Rattle.aml_names.specs.declared.segments.Seg.{Seg}
use Rattle.aml_code.specs.declared.packages.PkgWidth.{PkgWidth}
use Rattle.aml_code.specs.declared.rows.Role.{Role}
use Rattle.aml_code.specs.declared.rows.Role.TheVariants as roles
use Rattle.aml_code.specs.Lawful.{last_label, field_names}
use Rattle.aml_code.specs.Tree.{Tree, nothing, named, op, Trees, no_trees, tree_more, Parts, Tail, terms}
use Rattle.aml_space.specs.declared.faults.SpaceFault.TheVariants as faults
use Rattle.aml_namespace.specs.declared.kinds.Kind.TheVariants as kinds
use Rattle.aml_namespace.specs.Namespace.{Entry, Givens, declared_at, external}
use Rattle.aml_load.specs.declared.faults.LoadFault.{LoadFault}
use Rattle.aml_load.specs.declared.faults.LoadFault.TheVariants as loads
use Rattle.aml_load.specs.Declaring.{◌>>=◌, Listed, first_listed, plus, byte_of, first_label, body_span, most_methods}
use Rattle.aml_load.specs.Declaring.{place_at, lead_at, entry_at, new_at, method_at, alias_at, external_at, units_at}
use Rattle.aml_load.specs.Loading.{Where, role_of, kind_of, plain_entry, method_entry, alias_entry, methods_of}
use Rattle.aml_load.specs.Runner.{front_at}
use Rattle.aml_load.specs.Running.{Front, table_front, asked, opened_at, object_at, scope_at, flat_at, enter_as, entered_at}
use Rattle.aml_load.specs.Running.{behind_tree, behind_inside, behind_trees, behind_table, behind_tables}
use Rattle.aml_load.specs.Standing.{◌>>>◌, Standing, stands, term_stands, inside_stand, all_stand, tables_stand, set_stands}
use Rattle.aml_load.specs.Standings.{enters_at, walk, walk_inside, walk_all, walk_tables}
use Rattle.aml_load.specs.Standings.{met, met_inside, met_all, met_tables, set_declares}
use Rattle.aml_load.specs.Tables.{Fails}
use Rattle.aml_load.proofs.HearingLaws.{placed, run_entered}

-- ---- what is declared, without the names that are asked

abbrev Step : Type 0
Step = Result Listed LoadFault

abbrev bare : Listed → Listed
bare l = record { entries = l.entries; uses = [] }

abbrev bared : Step → Step
bared r = r >>= λ m. Ok (bare m)

bind_bare : {A : Type 0} (r : Result A LoadFault) (f g : A → Step) → ((x : A) → f x ≡ bared (g x)) → (r >>= f) ≡ bared (r >>= g)
bind_bare (Ok x) f g law = law x
bind_bare (Err e) f g law = refl

then_bare : (r s : Step) (f g : Listed → Step) → r ≡ bared s → ((m : Listed) → f (bare m) ≡ bared (g m)) → (r >>= f) ≡ bared (s >>= g)
then_bare r (Ok m) f g is law = ap (λ (q : Step). q >>= f) is ∙ law m
then_bare r (Err e) f g is law = ap (λ (q : Step). q >>= f) is

then_met : (r s : Step) (f g : Listed → List Standing) → r ≡ bared s → ((m : Listed) → f (bare m) ≡ g m) → (r >>> f) ≡ (s >>> g)
then_met r (Ok m) f g is law = ap (λ (q : Step). q >>> f) is ∙ law m
then_met r (Err e) f g is law = ap (λ (q : Step). q >>> f) is

cond_bare : (b : Bool) (e : LoadFault) (r s : Step) → r ≡ bared s → cond b (Err e) r ≡ bared (cond b (Err e) s)
cond_bare true e r s is = refl
cond_bare false e r s is = is

abbrev the_ok : Listed → Step
the_ok l = Ok l

module _ (site : Where) (l : Listed) where
  entry_bare : (p : List Seg) (x : Entry) → entry_at site (bare l) p x ≡ bared (entry_at site l p x)
  unfolding entry_at
  entry_bare p x =
      cond_bare (not site.any_run && is_some (declared_at l.entries p)) (loads.Space site.table (faults.Duplicate p))
      (the_ok (plus (bare l) x)) (the_ok (plus l x)) refl

  new_bare : (n : Option Name) (entry : List Seg → Entry) → new_at site (bare l) n entry ≡ bared (new_at site l n entry)
  unfolding new_at
  new_bare n entry =
      bind_bare (place_at site n) (λ p. entry_at site (bare l) p (entry p)) (λ p. entry_at site l p (entry p)) (λ p. entry_bare p (entry p))

  method_bare : (n : Option Name) (flags : ℕ) (span : ℕ × ℕ) → method_at site (bare l) n flags span ≡ bared (method_at site l n flags span)
  unfolding method_at
  method_bare n flags span =
      cond_bare (nat_le most_methods (length (methods_of l.entries))) loads.TooManyMethods _ _ (new_bare n (method_entry site l.entries flags span))

  alias_bare : (source n : Option Name) → alias_at site (bare l) source n ≡ bared (alias_at site l source n)
  unfolding alias_at
  alias_bare source n =
      bind_bare (lead_at site l.entries source (λ p. faults.AliasMissing p)) (λ q. new_at site (bare l) n (alias_entry site l.entries q))
      (λ q. new_at site l n (alias_entry site l.entries q)) (λ q. new_bare n (alias_entry site l.entries q))

  external_bare : (n : Option Name) (count : ℕ) → external_at site (bare l) n count ≡ bared (external_at site l n count)
  unfolding external_at
  external_bare n count =
      bind_bare (place_at site n) (λ p. Ok (plus (bare l) (external p count))) (λ p. Ok (plus l (external p count))) (λ p. refl)

units_bare : (site : Where) (l : Listed) (ns : List Name) → units_at site (bare l) ns ≡ bared (units_at site l ns)
unfolding units_at
units_bare site l [] = refl
units_bare site l (n ∷ ns) =
    let entry : List Seg → Entry = plain_entry site l.entries kinds.Field in
    then_bare (new_at site (bare l) (Some n) entry) (new_at site l (Some n) entry) (λ k. units_at site k ns) (λ k. units_at site k ns)
    (new_bare site l (Some n) entry) (λ k. units_bare site k ns)

-- ---- what a term does

abbrev bare_front : Front → Front
bare_front f = front_at f.site (bare f.listed)

abbrev bared_front : Result Front LoadFault → Result Front LoadFault
bared_front r = r >>= λ f. Ok (bare_front f)

front_bind : {A : Type 0} (r : Result A LoadFault) (f g : A → Result Front LoadFault) → ((x : A) → f x ≡ bared_front (g x))
    → (r >>= f) ≡ bared_front (r >>= g)
front_bind (Ok x) f g law = law x
front_bind (Err e) f g law = refl

front_then : (r s : Step) (f g : Listed → Result Front LoadFault) → r ≡ bared s → ((m : Listed) → f (bare m) ≡ bared_front (g m))
    → (r >>= f) ≡ bared_front (s >>= g)
front_then r (Ok m) f g is law = ap (λ (q : Step). q >>= f) is ∙ law m
front_then r (Err e) f g is law = ap (λ (q : Step). q >>= f) is

flat_bare : (role : Role) (site : Where) (l : Listed) (ps : Parts) (r : Tail)
    → flat_at role site (bare l) ps r ≡ bared (flat_at role site l ps r)
unfolding flat_at
flat_bare roles.Method site l ps r = method_bare site l (last_label None ps) (byte_of ps) (body_span r)
flat_bare roles.Alias site l ps r = alias_bare site l (first_label ps) (last_label None ps)
flat_bare roles.External site l ps r = external_bare site l (last_label None ps) (byte_of ps)
flat_bare roles.Fields site l ps r = units_bare site l (field_names r)
flat_bare _ site l ps r = refl

enter_bare : (role : Role) (f : Front) (ps : Parts) (r : Tail) → enter_as role (bare_front f) ps r ≡ bared_front (enter_as role f ps r)
unfolding enter_as object_at scope_at
enter_bare (roles.Declares o) f ps r = front_bind (place_at f.site (last_label None ps)) _ _ (λ p.
    front_then _ _ _ _ (entry_bare f.site f.listed p (plain_entry f.site f.listed.entries (kind_of o) p)) (λ m. refl))
enter_bare roles.Scope f ps r = front_bind (opened_at f.site f.listed.entries (last_label None ps)) _ _ (λ p. refl)
enter_bare roles.Guard f ps r = refl
enter_bare roles.Other f ps r = refl
enter_bare role f ps r = front_then _ _ _ _ (flat_bare role f.site f.listed ps r) (λ m. refl)

-- an opcode, by its head
enters : (f : Front) (o : ℕ) (w : Option PkgWidth) (ps : Parts) (r : Tail)
    → enters_at f.site (bare f.listed) (op o w ps r) ≡ bared_front (entered_at f (op o w ps r))
unfolding entered_at
enters f o w ps r = run_entered (bare_front f) o w ps r ∙ enter_bare (role_of o) (asked f (op o w ps r)) ps r

-- what is listed behind a step
abbrev lists : Result Front LoadFault → Step
lists r = r >>= λ g. Ok g.listed

-- behind a term without an opcode
passed : (any : Bool) (f : Front) (x : Tree) → Ok (bare f.listed) ≡ bared (the_ok (cond any (asked f x) f).listed)
passed true f x = refl
passed false f x = refl

module _ (f : Front) (x : Tree) where
  goes_on : (go : Front → Result Front LoadFault)
      → (lists (behind_tree f x) >>= λ m. lists (go (front_at f.site m))) ≡ lists (behind_tree f x >>= go)
  goes_on go = by (behind_tree f x) ∙ ap (λ (q : Result Front LoadFault). lists (q >>= go)) (sym (placed f x))
    where
      by : (r : Result Front LoadFault) → (lists r >>= λ m. lists (go (front_at f.site m)))
          ≡ lists ((r >>= λ g. Ok (front_at f.site g.listed)) >>= go)
      by (Ok g) = refl
      by (Err e) = refl

  goes_met : (go : Front → List Standing) → (lists (behind_tree f x) >>> λ m. go (front_at f.site m)) ≡ (behind_tree f x >>> go)
  goes_met go = by (behind_tree f x) ∙ ap (λ (q : Result Front LoadFault). q >>> go) (sym (placed f x))
    where
      by : (r : Result Front LoadFault) → (lists r >>> λ m. go (front_at f.site m)) ≡ ((r >>= λ g. Ok (front_at f.site g.listed)) >>> go)
      by (Ok g) = refl
      by (Err e) = refl

-- an opcode, by where the terms inside it stand
op_walks : (f : Front) (r : Tail) (q : Result Front LoadFault)
    → ((i : Front) → walk_inside i.site (bare i.listed) r ≡ bared (lists (behind_inside i r)))
    → (bared_front q >>= λ g. walk_inside g.site g.listed r)
    ≡ bared (lists (q >>= λ i. (behind_inside i r >>= λ e. Ok (record f { listed = e.listed }))))
op_walks f r (Err e) law = refl
op_walks f r (Ok i) law = law i ∙ by (behind_inside i r)
  where
    by : (q : Result Front LoadFault) → bared (lists q) ≡ bared (lists (q >>= λ e. Ok (record f { listed = e.listed })))
    by (Ok e) = refl
    by (Err e) = refl

op_met : (r : Tail) (q : Result Front LoadFault) → ((i : Front) → met_inside i.site (bare i.listed) r ≡ inside_stand i r)
    → (bared_front q >>> λ g. met_inside g.site g.listed r) ≡ (q >>> λ i. inside_stand i r)
op_met r (Err e) law = refl
op_met r (Ok i) law = law i

mutual
  unfolding walk walk_inside walk_all behind_tree behind_inside behind_trees entered_at

  tree_walks : (f : Front) (x : Tree) → walk f.site (bare f.listed) x ≡ bared (lists (behind_tree f x))
  tree_walks f (op o w ps r) =
      ap (λ (q : Result Front LoadFault). q >>= λ g. walk_inside g.site g.listed r) (enters f o w ps r)
      ∙ op_walks f r (entered_at f (op o w ps r)) (λ i. inside_walks i r)
  tree_walks f nothing = passed f.site.any_run f nothing
  tree_walks f (named n ts) = passed f.site.any_run f (named n ts)

  inside_walks : (f : Front) (r : Tail) → walk_inside f.site (bare f.listed) r ≡ bared (lists (behind_inside f r))
  inside_walks f (terms ts) = all_walks f ts
  inside_walks f _ = refl

  all_walks : (f : Front) (xs : Trees) → walk_all f.site (bare f.listed) xs ≡ bared (lists (behind_trees f xs))
  all_walks f no_trees = refl
  all_walks f (tree_more x xs) =
      then_bare (walk f.site (bare f.listed) x) (lists (behind_tree f x)) _ (λ m. lists (behind_trees (front_at f.site m) xs))
      (tree_walks f x) (λ m. all_walks (front_at f.site m) xs)
      ∙ ap bared (goes_on f x (λ g. behind_trees g xs))

mutual
  unfolding met met_inside met_all term_stands inside_stand all_stand

  tree_met : (f : Front) (x : Tree) → met f.site (bare f.listed) x ≡ term_stands f x
  tree_met f (op o w ps r) = ap (λ (xs : List Standing). stands f.site (op o w ps r) ∷ xs)
      (ap (λ (q : Result Front LoadFault). q >>> λ g. met_inside g.site g.listed r) (enters f o w ps r)
      ∙ op_met r (entered_at f (op o w ps r)) (λ i. inside_met i r))
  tree_met f nothing = refl
  tree_met f (named n ts) = refl

  inside_met : (f : Front) (r : Tail) → met_inside f.site (bare f.listed) r ≡ inside_stand f r
  inside_met f (terms ts) = terms_met f ts
  inside_met f _ = refl

  terms_met : (f : Front) (xs : Trees) → met_all f.site (bare f.listed) xs ≡ all_stand f xs
  terms_met f no_trees = refl
  terms_met f (tree_more x xs) = ap₂ (λ (a b : List Standing). a ++ b) (tree_met f x)
      (then_met (walk f.site (bare f.listed) x) (lists (behind_tree f x)) _ (λ m. all_stand (front_at f.site m) xs)
      (tree_walks f x) (λ m. terms_met (front_at f.site m) xs)
      ∙ goes_met f x (λ g. all_stand g xs))

tables_walk : (any : Bool) (t : ℕ) (l : Listed) (trees : List Trees) → walk_tables any t (bare l) trees ≡ bared (behind_tables any t l trees)
unfolding walk_tables behind_tables
tables_walk any t l [] = refl
tables_walk any t l (ts ∷ rest) =
    then_bare _ (behind_table any t l ts) _ _ (all_walks (table_front any t l) ts) (λ k. tables_walk any (suc t) k rest)

tables_met : (any : Bool) (t : ℕ) (l : Listed) (trees : List Trees) → met_tables any t (bare l) trees ≡ tables_stand any t l trees
unfolding met_tables tables_stand
tables_met any t l [] = refl
tables_met any t l (ts ∷ rest) = ap₂ (λ (a b : List Standing). a ++ b) (terms_met (table_front any t l) ts)
    (then_met _ (behind_table any t l ts) _ _ (all_walks (table_front any t l) ts) (λ k. tables_met any (suc t) k rest))

-- ---- a set of tables

pub set_met : (any : Bool) (gs : Givens) (trees : List Trees) → met_tables any 0 (first_listed gs) trees ≡ set_stands any gs trees
set_met any gs trees = tables_met any 0 (first_listed gs) trees

set_walk : (any : Bool) (gs : Givens) (trees : List Trees) → walk_tables any 0 (first_listed gs) trees ≡ bared (set_declares any gs trees)
set_walk any gs trees = tables_walk any 0 (first_listed gs) trees

pub set_fails : (any : Bool) (gs : Givens) (trees : List Trees) (e : LoadFault)
    → Fails e (walk_tables any 0 (first_listed gs) trees) → Fails e (set_declares any gs trees)
set_fails any gs trees e (inl want) = inl want
set_fails any gs trees e (inr fails) = inr (by (set_declares any gs trees) (sym (set_walk any gs trees) ∙ fails))
  where
    by : (r : Step) → bared r ≡ Err e → r ≡ Err e
    by (Ok m) is = absurd (cc is)
    by (Err d) is = is
