-- The terms of tables, each by itself where it stands, declare what the tables load to.
use Rattle.std.proofs.Common.{◌≡◌, ℕ, suc, Bool, true, false, cond, List, [], ◌∷◌, ◌++◌, Result, Ok, Err, refl, ap}
use Rattle.std.proofs.Common.{sym, subst, ◌∙◌, rules}
use Rattle.std.specs.Prelude.{IfOk}
use Rattle.aml_code.specs.declared.rows.Role.{Role}
use Rattle.aml_code.specs.declared.rows.Role.TheVariants as roles
use Rattle.aml_code.specs.Tree.{Tree, nothing, named, op, Trees, no_trees, tree_more, Parts, Tail, terms}
use Rattle.aml_namespace.specs.Namespace.{Givens}
use Rattle.aml_load.specs.declared.faults.LoadFault.{LoadFault}
use Rattle.aml_load.specs.Declaring.{◌>>=◌, Listed, first_listed}
use Rattle.aml_load.specs.Loading.{role_of}
use Rattle.aml_load.specs.Running.{Front, table_front, asked, object_at, scope_at, enter_as, entered_at, behind_tree}
use Rattle.aml_load.specs.Running.{behind_inside, behind_trees, behind_table, behind_tables}
use Rattle.aml_load.specs.Standing.{◌>>>◌, Standing, stands, term_stands, inside_stand, all_stand, tables_stand, set_stands}
use Rattle.aml_load.specs.StandingLaws.{front_at, alone_by, each_alone, StandAsDeclared}
use Rattle.aml_load.specs.Tables.{ListsTo}
use Rattle.aml_load.proofs.Founds.{load_declares}
use Rattle.aml_load.proofs.Relating.{loads_so}

abbrev Step : Type 0
Step = Result Listed LoadFault

module _ (any : Bool) where
  ended : (r : Step) → (r >>= λ j. each_alone any j []) ≡ r
  unfolding each_alone
  ended (Ok l) = refl
  ended (Err e) = refl

  -- one list of terms behind another
  each_append : (l : Listed) (xs ys : List Standing)
      → each_alone any l (xs ++ ys) ≡ (each_alone any l xs >>= λ k. each_alone any k ys)
  unfolding each_alone
  each_append l [] ys = refl
  each_append l (s ∷ xs) ys = by (alone_by any l s) (λ k. each_append k xs ys)
    where
      by : (r : Step)
          → ((k : Listed) → each_alone any k (xs ++ ys) ≡ (each_alone any k xs >>= λ k. each_alone any k ys))
          → (r >>= λ k. each_alone any k (xs ++ ys))
          ≡ ((r >>= λ k. each_alone any k xs) >>= λ k. each_alone any k ys)
      by (Ok k) on = on k
      by (Err e) on = refl

  -- terms, and those behind what they declare
  joined : {A : Type 0} (at : A → Listed) (l k : Listed) (d : Result A LoadFault) (first : List Standing)
      (rest : A → List Standing) (go : A → Step)
      → ((j : A) → d ≡ Ok j → each_alone any l first ≡ Ok (at j))
      → ((j : A) → d ≡ Ok j → go j ≡ Ok k → each_alone any (at j) (rest j) ≡ Ok k)
      → (d >>= go) ≡ Ok k → each_alone any l (first ++ (d >>> rest)) ≡ Ok k
  joined at l k (Ok j) first rest go here on h =
      each_append l first (rest j) ∙ ap (λ (r : Step). r >>= λ i. each_alone any i (rest j)) (here j refl) ∙ on j refl h
  joined at l k (Err e) first rest go here on h = absurd (cc h)

-- ---- each term by itself

-- a fact of what a step gives
then_ok : {A B : Type 0} (P : B → Type 0) (r : Result A LoadFault) (k : A → Result B LoadFault)
    → ((x : A) → IfOk (k x) P) → IfOk (r >>= k) P
then_ok P (Ok x) k h = h x
then_ok P (Err e) k h = tt

ok_of : {A : Type 0} (P : A → Type 0) (r : Result A LoadFault) (x : A) → IfOk r P → r ≡ Ok x → P x
ok_of P r x h is = subst (λ (r : Result _ LoadFault). IfOk r P) is h

module _ (any : Bool) where
  -- its code may run, or may not
  abbrev Runs : Front → Type 0
  Runs f = f.site.any_run ≡ any

  enter_runs : (role : Role) (f : Front) (ps : Parts) (r : Tail) → Runs f → IfOk (enter_as role f ps r) Runs
  unfolding enter_as object_at scope_at
  enter_runs roles.Guard f ps r h = h
  enter_runs roles.Other f ps r h = h
  enter_runs _ f ps r h = search (rules, then_ok)

  entered_runs : (f inner : Front) (x : Tree) → Runs f → entered_at f x ≡ Ok inner → Runs inner
  unfolding entered_at
  entered_runs f inner x runs = ok_of Runs (entered_at f x) inner (by x)
    where
      passed : (b : Bool) (x : Tree) → (cond b (asked f x) f).site.any_run ≡ any
      passed true x = runs
      passed false x = runs

      by : (x : Tree) → IfOk (entered_at f x) Runs
      by (op o w ps r) = enter_runs (role_of o) (asked f (op o w ps r)) ps r runs
      by nothing = passed f.site.any_run nothing
      by (named n ts) = passed f.site.any_run (named n ts)

  -- a front is the one at which its terms stand
  same_front : (f : Front) (x : Tree) → Runs f → front_at any f.listed (stands f.site x) ≡ f
  same_front f x runs =
      ap (λ (b : Bool). record { listed = f.listed; site = record f.site { any_run = b } }) (sym runs)

  -- a term by itself, and then those inside it
  op_alone : (f g : Front) (x : Tree) (inside : Front → Result Front LoadFault) (inner : Front → List Standing) → Runs f
      → ((i e : Front) → entered_at f x ≡ Ok i → inside i ≡ Ok e → each_alone any i.listed (inner i) ≡ Ok e.listed)
      → (entered_at f x >>= λ i. (inside i >>= λ e. Ok (record f { listed = e.listed }))) ≡ Ok g
      → each_alone any f.listed (stands f.site x ∷ (entered_at f x >>> inner)) ≡ Ok g.listed
  unfolding each_alone alone_by
  op_alone f g x inside inner runs on h =
      ap (λ (k : Front). (entered_at k x >>= λ i. Ok i.listed) >>= λ j. each_alone any j (entered_at f x >>> inner)) (same_front f x runs)
      ∙ by (entered_at f x) on h
    where
      ends : (i : Front) (r : Result Front LoadFault) → ((e : Front) → r ≡ Ok e → each_alone any i.listed (inner i) ≡ Ok e.listed)
          → (r >>= λ e. Ok (record f { listed = e.listed })) ≡ Ok g → each_alone any i.listed (inner i) ≡ Ok g.listed
      ends i (Ok e) on h = on e refl ∙ ap (λ (r : Result Front LoadFault). r >>= λ k. Ok k.listed) h
      ends i (Err e) on h = absurd (cc h)

      by : (r : Result Front LoadFault)
          → ((i e : Front) → r ≡ Ok i → inside i ≡ Ok e → each_alone any i.listed (inner i) ≡ Ok e.listed)
          → (r >>= λ i. (inside i >>= λ e. Ok (record f { listed = e.listed }))) ≡ Ok g
          → ((r >>= λ i. Ok i.listed) >>= λ j. each_alone any j (r >>> inner)) ≡ Ok g.listed
      by (Ok i) on h = ends i (inside i) (λ e. on i e refl) h
      by (Err e) on h = absurd (cc h)

  -- a term that stays where it is
  still_alone : (f g : Front) (x : Tree) → Runs f → entered_at f x ≡ Ok g → each_alone any f.listed (stands f.site x ∷ []) ≡ Ok g.listed
  unfolding each_alone alone_by
  still_alone f g x runs is =
      ap (λ (k : Front). (entered_at k x >>= λ i. Ok i.listed) >>= λ j. Ok j) (same_front f x runs)
      ∙ ap (λ (r : Result Front LoadFault). (r >>= λ i. Ok i.listed) >>= λ j. Ok j) is

  -- behind a term its code may run as in front of it
  behind_runs : (f g : Front) (x : Tree) → Runs f → behind_tree f x ≡ Ok g → Runs g
  unfolding behind_tree entered_at
  behind_runs f g x runs = ok_of Runs (behind_tree f x) g (by x)
    where
      passed : (b : Bool) (x : Tree) → (cond b (asked f x) f).site.any_run ≡ any
      passed true x = runs
      passed false x = runs

      by : (x : Tree) → IfOk (behind_tree f x) Runs
      by (op o w ps r) = search (rules, then_ok)
      by nothing = passed f.site.any_run nothing
      by (named n ts) = passed f.site.any_run (named n ts)

  -- what is listed then
  listed_of : (r : Result Front LoadFault) (k : Listed) (A : Step) → ((g : Front) → r ≡ Ok g → A ≡ Ok g.listed)
      → (r >>= λ g. Ok g.listed) ≡ Ok k → A ≡ Ok k
  listed_of (Ok g) k A on h = on g refl ∙ h
  listed_of (Err e) k A on h = absurd (cc h)

  abbrev the_list : Front → Step
  the_list g = Ok g.listed

  -- the same of two steps
  listed_behind : (d : Result Front LoadFault) (go : Front → Result Front LoadFault) (g : Front) → (d >>= go) ≡ Ok g
      → (d >>= λ j. (go j >>= λ k. the_list k)) ≡ the_list g
  listed_behind (Ok j) go g h = ap (λ (r : Result Front LoadFault). r >>= λ k. Ok k.listed) h
  listed_behind (Err e) go g h = absurd (cc h)

  mutual
    unfolding behind_tree behind_inside behind_trees term_stands inside_stand all_stand each_alone

    term_alone : (f g : Front) (x : Tree) → Runs f → behind_tree f x ≡ Ok g
        → each_alone any f.listed (term_stands f x) ≡ Ok g.listed
    term_alone f g nothing runs h = still_alone f g nothing runs h
    term_alone f g (named n ts) runs h = still_alone f g (named n ts) runs h
    term_alone f g (op o w ps r) runs h =
        op_alone f g (op o w ps r) (λ i. behind_inside i r) (λ i. inside_stand i r) runs
        (λ i e is. inside_alone i e r (entered_runs f i (op o w ps r) runs is)) h

    inside_alone : (f g : Front) (r : Tail) → Runs f → behind_inside f r ≡ Ok g
        → each_alone any f.listed (inside_stand f r) ≡ Ok g.listed
    inside_alone f g (terms ts) runs h = all_alone f g ts runs h
    inside_alone f g _ runs h = ap (λ (r : Result Front LoadFault). r >>= λ k. Ok k.listed) h

    all_alone : (f g : Front) (ts : Trees) → Runs f → behind_trees f ts ≡ Ok g
        → each_alone any f.listed (all_stand f ts) ≡ Ok g.listed
    all_alone f g no_trees runs h = ap (λ (r : Result Front LoadFault). r >>= λ k. Ok k.listed) h
    all_alone f g (tree_more x xs) runs h =
        joined any (λ (j : Front). j.listed) f.listed g.listed (behind_tree f x) (term_stands f x) (λ j. all_stand j xs)
        (λ j. behind_trees j xs >>= λ k. Ok k.listed) (λ j. term_alone f j x runs)
        (λ j is. listed_of (behind_trees j xs) g.listed (each_alone any j.listed (all_stand j xs))
        (λ k. all_alone j k xs (behind_runs f j x runs is)))
        (listed_behind (behind_tree f x) (λ j. behind_trees j xs) g h)

  tables_alone : (t : ℕ) (l m : Listed) (trees : List Trees) → behind_tables any t l trees ≡ Ok m
      → each_alone any l (tables_stand any t l trees) ≡ Ok m
  unfolding behind_tables tables_stand each_alone
  tables_alone t l m [] h = h
  tables_alone t l m (ts ∷ rest) h =
      let f = table_front any t l in
      joined any (λ (j : Listed). j) l m (behind_table any t l ts) (all_stand f ts) (λ j. tables_stand any (suc t) j rest)
      (λ j. behind_tables any (suc t) j rest)
      (λ j. listed_of (behind_trees f ts) j (each_alone any l (all_stand f ts)) (λ g. all_alone f g ts refl))
      (λ j is. tables_alone (suc t) j m rest) h

alone_so : (any z : Bool) (gs : Givens) (tables : List (List ℕ)) (trees : List Trees) (m : Listed)
    → ListsTo any z gs tables trees m → each_alone any (first_listed gs) (set_stands any gs trees) ≡ Ok m
alone_so any z gs tables trees m lists = tables_alone any 0 (first_listed gs) m trees (load_declares any z gs tables trees m lists)

pub stand_as_declared : (any z : Bool) (gs : Givens) (tables : List (List ℕ)) → StandAsDeclared any z gs tables
stand_as_declared any z gs tables trees es loads =
    let lists = loads_so any z gs tables trees es loads in
    (lists.0, alone_so any z gs tables trees (record { entries = es; uses = lists.0 }) lists.1)
