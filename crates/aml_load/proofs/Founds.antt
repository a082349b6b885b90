-- The terms that a walk finds, step by step.
use Rattle.std.proofs.Common.{◌≡◌, ℕ, suc, true, false, List, [], ◌∷◌, ◌++◌, Result, Ok, Err, sym}
use Rattle.std.proofs.Common.{ap, append_assoc, refl, ◌∙◌, Bool, ◌⊎◌, inl, inr}
use Rattle.std.specs.Prelude.{IfErr}
use Rattle.aml_code.specs.Tree.{Tree, nothing, named, op, Trees, tree_more}
use Rattle.aml_code.specs.View.{node_view}
use Rattle.aml_namespace.specs.Namespace.{Entry, Givens}
use Rattle.aml_load.specs.declared.faults.LoadFault.{LoadFault}
use Rattle.aml_load.specs.declared.faults.LoadFault.TheVariants as loads
use Rattle.aml_load.specs.declared.standing.StandingTerm.{StandingTerm}
use Rattle.aml_load.specs.declared.walking.Progress.{Progress}
use Rattle.aml_load.specs.Declaring.{◌>>=◌, Listed, first_listed}
unfoldable use Rattle.aml_load.specs.Hearing.{head_enters, enters_by}
use Rattle.aml_load.specs.Running.{Front, behind_tables}
use Rattle.aml_load.specs.Loading.{Where, LoadsTo}
use Rattle.aml_load.specs.Standing.{◌>>>◌, Standing, stands}
use Rattle.aml_load.specs.Standings.{standings_view, AreStanding, Found, set_declares, enters_at}
use Rattle.aml_load.specs.Standings.{walk, walk_within, walk_all, met, met_within, met_all}
use Rattle.aml_load.specs.Tables.{Fails, ReadTables, ListsTo}
use Rattle.aml_load.specs.Walking.{KeepsPaths, Stays}
use Rattle.aml_load.proofs.Inside.{still_among, still_path}
use Rattle.aml_namespace.specs.Known.{Known}
use Rattle.aml_load.proofs.Behind.{tables_behind}
use Rattle.aml_load.proofs.Relating.{loads_so}

abbrev the_ok : Listed → Result Listed LoadFault
the_ok l = Ok l

-- the terms that were found stand where they stood
module _ (old new : Known) (keeps : KeepsPaths old new) where
  pub still_standing : (xs : List StandingTerm) → AreStanding old xs → AreStanding new xs
  still_standing [] all = tt
  still_standing (x ∷ xs) all = (still_among old new keeps x.scope all.0, still_standing xs all.1)

  pub same_standings : (xs : List StandingTerm) → AreStanding old xs → standings_view new xs ≡ standings_view old xs
  same_standings [] all = refl
  same_standings (x ∷ xs) all = λ i.
      record { table = x.table; scope = still_path old new keeps x.scope all.0 i; sure = x.sure; term = node_view x.term.now }
      ∷ same_standings xs all.1 i

-- one term in front of those of a step
pub found_more : {X : Type 0} (old mid new : Progress) (before more after : List StandingTerm) (r : Result X LoadFault)
    (walk : Result Listed LoadFault) (s : Standing) (list : List Standing) → Stays old mid → AreStanding old.space more
    → standings_view old.space more ≡ standings_view old.space before ++ s ∷ [] → Found mid new more after r walk list
    → Found old new before after r walk (s ∷ list)
found_more old mid new before more after (Ok x) walk s list stays all is (m, h, walked, next) = (
  m,
  h,
  walked,
  record {
    numbered = next.numbered;
    found = next.found ∙ ap (λ xs. xs ++ list) (same_standings old.space mid.space stays more all ∙ is)
        ∙ append_assoc (standings_view old.space before) (s ∷ []) list;
  },
)
found_more old mid new before more after (Err e) walk s list stays all is fails = fails

-- a term, and those behind it
module _ (old mid new : Known) (before more after : List StandingTerm) where
  pub terms_stood : (site : Where) (m k : Listed) (x : Tree) (xs : Trees) (all : List Standing) → walk site m x ≡ Ok k
      → standings_view new after ≡ standings_view mid more ++ met site m x
      → standings_view mid more ++ met_all site m (tree_more x xs) ≡ standings_view old before ++ all
      → standings_view new after ++ met_all site k xs ≡ standings_view old before ++ all
  unfolding met_all
  terms_stood site m k x xs all is here so_far = ap (λ ys. ys ++ met_all site k xs) here
      ∙ append_assoc (standings_view mid more) (met site m x) (met_all site k xs)
      ∙ ap (λ (q : Result Listed LoadFault). standings_view mid more ++ (met site m x ++ (q >>> λ k. met_all site k xs))) (sym is) ∙ so_far

-- what terms declare behind one
pub terms_more : (site : Where) (m k : Listed) (x : Tree) (xs : Trees) → walk site m x ≡ Ok k
    → walk_all site k xs ≡ walk_all site m (tree_more x xs)
unfolding walk_all
terms_more site m k x xs is = sym (ap (λ (r : Result Listed LoadFault). r >>= λ j. walk_all site j xs) is)

pub terms_fail : (site : Where) (m : Listed) (x : Tree) (xs : Trees) (e : LoadFault) → Fails e (walk site m x)
    → Fails e (walk_all site m (tree_more x xs))
unfolding walk_all
terms_fail site m x xs e (inl want) = inl want
terms_fail site m x xs e (inr fails) = inr (ap (λ (r : Result Listed LoadFault). r >>= λ j. walk_all site j xs) fails)

abbrev no_terms : Front → List Standing
no_terms f = []

none_met : (q : Result Front LoadFault) → (q >>> no_terms) ≡ []
none_met (Ok y) = refl
none_met (Err e) = refl

-- a term by what its head does, and those inside it
module _ (site : Where) (l : Listed) where
  walk_is : (x : Tree) → walk site l x ≡ (enters_at site l x >>= λ f. walk_within f.site f.listed x)
  unfolding walk head_enters enters_by
  walk_is (op o w ps r) = refl
  walk_is nothing = refl
  walk_is (named n ts) = refl

  met_is : (x : Tree) → met site l x ≡ stands site x ∷ (enters_at site l x >>> λ f. met_within f.site f.listed x)
  unfolding met
  met_is (op o w ps r) = refl
  met_is nothing = ap (λ (xs : List Standing). stands site nothing ∷ xs) (sym (none_met (enters_at site l nothing)))
  met_is (named n ts) = ap (λ (xs : List Standing). stands site (named n ts) ∷ xs) (sym (none_met (enters_at site l (named n ts))))

  module _ (x : Tree) (f : Front) (is : enters_at site l x ≡ Ok f) where
    pub walk_on : walk site l x ≡ walk_within f.site f.listed x
    walk_on = walk_is x ∙ ap (λ (q : Result Front LoadFault). q >>= λ f. walk_within f.site f.listed x) is

    pub met_on : met site l x ≡ stands site x ∷ met_within f.site f.listed x
    met_on = met_is x ∙ ap (λ (q : Result Front LoadFault). stands site x ∷ (q >>> λ f. met_within f.site f.listed x)) is

  -- what a term declares itself stops
  pub walk_stops : (x : Tree) (e : LoadFault) → Fails e (enters_at site l x) → Fails e (walk site l x)
  walk_stops x e (inl want) = inl want
  walk_stops x e (inr fails) = inr (walk_is x ∙ ap (λ (q : Result Front LoadFault). q >>= λ f. walk_within f.site f.listed x) fails)

-- ---- what tables load to, their terms declare

read_declares : (t : ℕ) (l : Listed) (cs : List (List ℕ)) (trees : List Trees) (m : Listed)
    → ReadTables false t l cs trees m
    → behind_tables false t l trees ≡ Ok m
unfolding behind_tables
read_declares t l [] [] m read = ap (λ (k : Listed). Ok k) read
read_declares t l [] (ts ∷ rest) m read = absurd read
read_declares t l (c ∷ cs) [] m read = absurd read
read_declares t l (c ∷ cs) (ts ∷ rest) m (k, reads, read) =
    ap (λ (r : Result Listed LoadFault). r >>= λ j. behind_tables false (suc t) j rest) reads.1 ∙ read_declares (suc t) k cs rest m read

pub load_declares : (any z : Bool) (gs : Givens) (tables : List (List ℕ)) (trees : List Trees) (m : Listed)
    → ListsTo any z gs tables trees m → set_declares any gs trees ≡ Ok m
load_declares false z gs tables trees m loads = read_declares 0 (first_listed gs) tables trees m loads.read
load_declares true z gs tables trees m loads = tables_behind 0 (first_listed gs) tables trees m loads.read

-- a fault of the trees' terms is want of memory, or no tables load to the trees
pub refused : {X : Type 0} (r : Result X LoadFault) (any : Bool) (gs : Givens) (trees : List Trees)
    → IfErr r (λ e. Fails e (set_declares any gs trees))
    → IfErr r (λ e. (e ≡ loads.NoMemory) ⊎ ((z : Bool) (tables : List (List ℕ)) (es : List Entry) → LoadsTo any z gs tables trees es → ⊥))
refused (Ok x) any gs trees h = tt
refused (Err e) any gs trees (inl want) = inl want
refused (Err e) any gs trees (inr fails) = inr (λ z tables es loads.
    let lists = loads_so any z gs tables trees es loads in
    let all = load_declares any z gs tables trees (record { entries = es; uses = lists.0 }) lists.1 in absurd (cc (all, fails)))
