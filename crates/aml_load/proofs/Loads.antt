-- A load gives what its tables load to, refuses only tables that load to nothing, and refuses for a true reason:
-- reading a table forward gives what it reads as and lists, or why that stops, whether it is read whole or from the
-- left. So the laws are put together for the tables (`tables_tell`, `tables_again`) and for the load (`loads_forward`,
-- `loads_again`).
use denote.Ref.{Bor}
use Rattle.std.specs.Prelude.{IfOk, IfErr}
use Rattle.std.specs.Result.{MatchResult}
use Rattle.std.specs.List.{All, AllZip}
use Rattle.std.specs.Option.{option_eq}
use Rattle.std.proofs.Common.{◌≡◌, ◌≤◌, ◌⊎◌, ℕ, zero, suc, Bool, true, false, List, [], ◌∷◌, ◌++◌, length, None, Result}
use Rattle.std.proofs.Common.{Ok, Err, refl, sym, ap, subst, ◌∙◌, append_assoc, inl, inr, slice_index_or, get_or, drop}
use Rattle.std.proofs.Common.{◌+◌, ◌<◌, arith, cond, nat_eq, Option, Some}
use Rattle.std.proofs.lemmas.Bool.{eqb-true, eq-eqb}
use Rattle.std.proofs.lemmas.List.{append-nil, drop_more}
use Rattle.std.proofs.lemmas.List.Elements.{All-nil, All-cons, All-head, All-tail}
use Rattle.aml_names.specs.declared.faults.CodeFault.{CodeFault}
use Rattle.aml_code.specs.declared.rows.Position.TheVariants as positions
use Rattle.aml_code.specs.Lawful.{ReadsModule, BodiesStand, no_arguments}
use Rattle.aml_code.specs.Tree.{Trees, encodings}
use Rattle.aml_parse.specs.Reading.{all_at}
use Rattle.aml_parse.specs.Running.{ReadsTable, StopsTerms, run_table_at}
use Rattle.aml_parse.proofs.Readings.{module_sound, module_again, all_placed}
use Rattle.aml_parse.proofs.Forward as forward
use Rattle.aml_namespace.specs.Namespace.{Entry, Givens}
use Rattle.aml_set.specs.Code.{IsCode, AreCodes, AreShort}
use Rattle.aml_set.specs.Views.{codes_view}
use Rattle.aml_set.specs.declared.loaded.Loaded.{Loaded}
use Rattle.aml_load.specs.declared.faults.LoadFault.{LoadFault}
use Rattle.aml_load.specs.declared.faults.LoadFault.TheVariants as loads
use Rattle.aml_load.specs.Declaring.{◌>>=◌, Listed, Use, first_listed, use_count, call_fault}
use Rattle.aml_load.specs.Declaring.{most_methods, uses_at}
use Rattle.aml_load.specs.Loading.{methods_of, LoadsTo}
use Rattle.aml_load.specs.Running.{Front, table_front, behind_table, run_names}
use Rattle.aml_load.specs.Tables.{ReadsOne, ReadTables, ListsTo, StopsOne, StopsTables, StopsFor, in_code, table_at}
use Rattle.aml_load.specs.Tables.{tables_at, load_at, GivesBy, GivesLoad, Fails}
use Rattle.aml_load.specs.Tables.{LoadsOneWay, LoadsForward, LoadsAgain, AreSpelled, LoadsInTextOrder}
use Rattle.aml_load.proofs.Relating.{loads_is, loads_so}
use Rattle.aml_load.proofs.RunSpans.{lists_in_text_order}

never : {X E : Type 0} (x : X) (e : E) (r : Result X E) → r ≡ Ok x → r ≡ Err e → ⊥
never x e r p q = absurd (cc (p, q))

-- ---- one table

abbrev OneTells : Bool → ℕ → Listed → List ℕ → Result (Trees × Listed) LoadFault → Type 0
OneTells any t l c r = MatchResult r (λ x. ReadsOne any t l c x.0 x.1) (λ e. StopsOne any t l c e)

module _ (t : ℕ) (l : Listed) (c : List ℕ) where
  -- read whole
  abbrev module_at : Result Trees CodeFault
  module_at = all_at no_arguments None positions.ModuleTerm c

  abbrev declared : Trees → Result (Trees × Listed) LoadFault
  declared ts = behind_table false t l ts >>= λ m. Ok (ts, m)

  terms_tell : (ts : Trees) → ReadsModule c ts → (r : Result Listed LoadFault) → behind_table false t l ts ≡ r
      → OneTells false t l c (r >>= λ m. Ok (ts, m))
  terms_tell ts law (Ok m) is = (law, is)
  terms_tell ts law (Err e) is = inr (ts, law, is)

  code_tells : IsCode c → (r : Result Trees CodeFault) → module_at ≡ r → OneTells false t l c (in_code t r >>= declared)
  code_tells fits (Ok ts) is = terms_tell ts (module_sound c ts fits is) (behind_table false t l ts) refl
  code_tells fits (Err f) is =
      inl (f, all_placed no_arguments None positions.ModuleTerm c f fits is, (λ ts law. never ts f module_at (module_again c ts law) is), refl)

  -- read from the left
  abbrev from_left : Result (Trees × Front) LoadFault
  from_left = run_table_at (run_names t) c (table_front true t l)

  abbrev listed : Trees × Front → Result (Trees × Listed) LoadFault
  listed x = Ok (x.0, x.1.listed)

  run_tells : (r : Result (Trees × Front) LoadFault)
      → MatchResult r (λ x. ReadsTable (run_names t) c (table_front true t l) x.0 x.1)
      (λ e. StopsTerms (run_names t) c 512 positions.RunTerm 0 (length c) (table_front true t l) e)
      → OneTells true t l c (r >>= listed)
  run_tells (Ok x) reads = (x.1, reads, refl)
  run_tells (Err e) stops = stops

  table_tells : (any : Bool) → IsCode c → OneTells any t l c (table_at any t l c)
  unfolding table_at
  table_tells false fits = code_tells fits module_at refl
  table_tells true fits = run_tells from_left (forward.table_tells (run_names t) c (table_front true t l) fits)

  table_again : (any : Bool) (ts : Trees) (m : Listed) → ReadsOne any t l c ts m → table_at any t l c ≡ Ok (ts, m)
  unfolding table_at
  table_again false ts m (law, is) =
      ap (λ (r : Result Trees CodeFault). in_code t r >>= declared) (module_again c ts law)
      ∙ ap (λ (r : Result Listed LoadFault). r >>= λ m. Ok (ts, m)) is
  table_again true ts m (k, reads, same) =
      ap (λ (r : Result (Trees × Front) LoadFault). r >>= listed) (forward.table_again (run_names t) c (table_front true t l) ts k reads)
      ∙ ap (λ (n : Listed). Ok (ts, n)) same

  table_spelled : (any : Bool) (ts : Trees) (m : Listed) → ReadsOne any t l c ts m
      → (encodings c ts ≡ c) × BodiesStand c 0 ts
  table_spelled false ts m (law, is) = (law.spelled, law.bodies)
  table_spelled true ts m (k, reads, same) = forward.table_spelled (run_names t) c (table_front true t l) ts k reads

-- ---- the tables

abbrev Whole : Type 0
Whole = List Trees × Listed

module _ (any : Bool) where
  abbrev Told : ℕ → Listed → List Trees → List (List ℕ) → Result Whole LoadFault → Type 0
  Told t l front cs r =
      MatchResult r (λ x. (trees : List Trees) × (x.0 ≡ front ++ trees) × ReadTables any t l cs trees x.1) (λ e. StopsTables any t l cs e)

  -- one table, and those behind it
  module _ (t : ℕ) (l : Listed) (front : List Trees) (c : List ℕ) (cs : List (List ℕ)) where
    abbrev behind : Trees × Listed → Result Whole LoadFault
    behind one = tables_at any (suc t) (front ++ one.0 ∷ []) one.1 cs

    more_told : (one : Trees × Listed) → ReadsOne any t l c one.0 one.1 → (r : Result Whole LoadFault)
        → Told (suc t) one.1 (front ++ one.0 ∷ []) cs r → Told t l front (c ∷ cs) r
    more_told one reads (Ok x) (trees, is, read) = (one.0 ∷ trees, is ∙ append_assoc front (one.0 ∷ []) trees, (one.1, reads, read))
    more_told one reads (Err e) stops = inr (one.0, one.1, reads, stops)

    table_told : ((one : Trees × Listed) → Told (suc t) one.1 (front ++ one.0 ∷ []) cs (behind one))
        → (r : Result (Trees × Listed) LoadFault)
        → OneTells any t l c r → Told t l front (c ∷ cs) (r >>= behind)
    table_told rest (Ok one) reads = more_told one reads (behind one) (rest one)
    table_told rest (Err e) stops = inl stops

  tables_tell : (t : ℕ) (l : Listed) (front : List Trees) (cs : List (List ℕ)) → AreCodes cs
      → Told t l front cs (tables_at any t front l cs)
  unfolding tables_at
  tables_tell t l front [] fits = ([], sym (append-nil front), refl)
  tables_tell t l front (c ∷ cs) fits =
      table_told t l front c cs (λ one. tables_tell (suc t) one.1 (front ++ one.0 ∷ []) cs fits.1) (table_at any t l c) (table_tells t l c any fits.0)

  tables_again : (t : ℕ) (l : Listed) (front : List Trees) (cs : List (List ℕ)) (trees : List Trees) (m : Listed)
      → ReadTables any t l cs trees m
      → tables_at any t front l cs ≡ Ok (front ++ trees, m)
  unfolding tables_at
  tables_again t l front [] [] m read =
      ap (λ (k : Listed). Ok (front, k)) read ∙ ap (λ (all : List Trees). Ok (all, m)) (sym (append-nil front))
  tables_again t l front [] (ts ∷ rest) m read = absurd read
  tables_again t l front (c ∷ cs) [] m read = absurd read
  tables_again t l front (c ∷ cs) (ts ∷ rest) m (k, reads, read) =
      ap (λ (r : Result (Trees × Listed) LoadFault). r >>= behind t l front c cs) (table_again t l c any ts k reads)
      ∙ tables_again (suc t) k (front ++ ts ∷ []) cs rest m read ∙ ap (λ (all : List Trees). Ok (all, m)) (append_assoc front (ts ∷ []) rest)

  tables_spelled : (t : ℕ) (l : Listed) (cs : List (List ℕ)) (trees : List Trees) (m : Listed)
      → ReadTables any t l cs trees m
      → AllZip (λ code ts. (encodings code ts ≡ code) × BodiesStand code 0 ts) cs trees
  tables_spelled t l [] [] m read = tt
  tables_spelled t l [] (ts ∷ rest) m read = absurd read
  tables_spelled t l (c ∷ cs) [] m read = absurd read
  tables_spelled t l (c ∷ cs) (ts ∷ rest) m (k, reads, read) = (table_spelled t l c any ts k reads, tables_spelled (suc t) k cs rest m read)

-- ---- the names outside methods: each takes as many arguments as were read with it where none of them is a fault

module _ (any z : Bool) (es : List Entry) where
  abbrev Agrees : Use → Type 0
  Agrees u = use_count z es u ≡ Some u.args

  same_count : (o : Option ℕ) (n : ℕ) → option_eq nat_eq o (Some n) ≡ true → o ≡ Some n
  same_count None n h = absurd cc
  same_count (Some m) n h = ap Some (eqb-true m n h)

  first_agrees : (u : Use) (us : List Use) (done : Unit {0}) (b : Bool) (rest : Result (Unit {0}) LoadFault)
      → option_eq nat_eq (use_count z es u) (Some u.args) ≡ b → cond b rest (Err (call_fault any u)) ≡ Ok done
      → (rest ≡ Ok done → All Agrees us)
      → All Agrees (u ∷ us)
  first_agrees u us done true rest same is others = All-cons Agrees u us (same_count (use_count z es u) u.args same) (others is)
  first_agrees u us done false rest other is others = absurd cc

  uses_agree : (us : List Use) (done : Unit {0}) → uses_at any z es us ≡ Ok done → All Agrees us
  unfolding uses_at
  uses_agree [] done is = All-nil Agrees
  uses_agree (u ∷ us) done is =
      first_agrees u us done (option_eq nat_eq (use_count z es u) (Some u.args)) (uses_at any z es us) refl is (uses_agree us done)

  agreed_uses : (us : List Use) → All Agrees us → uses_at any z es us ≡ Ok tt
  unfolding uses_at
  agreed_uses [] h = refl
  agreed_uses (u ∷ us) h =
      let same : option_eq nat_eq (use_count z es u) (Some u.args) ≡ true =
      ap (λ o. option_eq nat_eq o (Some u.args)) (All-head Agrees u us h) ∙ eq-eqb u.args u.args refl in
      ap (λ b. cond b (uses_at any z es us) (Err (call_fault any u))) same ∙ agreed_uses us (All-tail Agrees u us h)

-- ---- the whole load

module _ (any z : Bool) (gs : Givens) (cs : List (List ℕ)) where
  abbrev check : Whole → Result Whole LoadFault
  check x = uses_at any z x.1.entries x.1.uses >>= λ u. Ok x

  abbrev LoadTells : Result Whole LoadFault → Type 0
  LoadTells r = MatchResult r (λ x. LoadsTo any z gs cs x.0 x.1.entries) (λ e. StopsFor any z gs cs e)

  uses_told : (x : Whole) (trees : List Trees) → x.0 ≡ trees → ReadTables any 0 (first_listed gs) cs trees x.1
      → (r : Result (Unit {0}) LoadFault)
      → uses_at any z x.1.entries x.1.uses ≡ r → LoadTells (r >>= λ u. Ok x)
  uses_told x trees same read (Ok u) is = loads_is any z gs cs x.0 x.1 (record {
    read = subst (λ (ts : List Trees). ReadTables any 0 (first_listed gs) cs ts x.1) (sym same) read;
    agreed = uses_agree any z x.1.entries x.1.uses u is;
  })
  uses_told x trees same read (Err e) is = inr (trees, x.1, read, is)

  after_tables : (r : Result Whole LoadFault) → Told any 0 (first_listed gs) [] cs r → LoadTells (r >>= check)
  after_tables (Ok x) (trees, is, read) = uses_told x trees is read (uses_at any z x.1.entries x.1.uses) refl
  after_tables (Err e) stops = inl stops

  pub loads_forward : LoadsForward any z gs cs
  unfolding load_at
  loads_forward fits = after_tables (tables_at any 0 [] (first_listed gs) cs) (tables_tell any 0 (first_listed gs) [] cs fits)

  -- the steps of a load put together
  pub load_gives : (ts : List Trees) (m : Listed) (us : List Use) (u : Unit {0})
      → tables_at any 0 [] (first_listed gs) cs ≡ Ok (ts, m) → us ≡ m.uses
      → uses_at any z m.entries us ≡ Ok u → load_at any z gs cs ≡ Ok (ts, m)
  unfolding load_at
  load_gives ts m us u read is free =
      ap (λ (r : Result Whole LoadFault). r >>= check) read
      ∙ ap (λ (r : Result (Unit {0}) LoadFault). r >>= λ u. Ok (ts, m)) (ap (uses_at any z m.entries) (sym is) ∙ free)

  -- and where the last of them refuses
  pub load_refused : (ts : List Trees) (m : Listed) (us : List Use) (e : LoadFault)
      → tables_at any 0 [] (first_listed gs) cs ≡ Ok (ts, m) → us ≡ m.uses
      → Fails e (uses_at any z m.entries us) → Fails e (load_at any z gs cs)
  unfolding load_at
  load_refused ts m us e read is (inl want) = inl want
  load_refused ts m us e read is (inr refused) = inr (ap (λ (r : Result Whole LoadFault). r >>= check) read
      ∙ ap (λ (r : Result (Unit {0}) LoadFault). r >>= λ u. Ok (ts, m)) (ap (uses_at any z m.entries) (sym is) ∙ refused))

  lists_again : (ts : List Trees) (m : Listed) → ListsTo any z gs cs ts m → load_at any z gs cs ≡ Ok (ts, m)
  lists_again ts m h = load_gives ts m m.uses tt (tables_again any 0 (first_listed gs) [] cs ts m h.read) refl (agreed_uses any z m.entries m.uses h.agreed)

  pub loads_again : LoadsAgain any z gs cs
  loads_again ts es h = let lists = loads_so any z gs cs ts es h in (lists.0, lists_again ts (record { entries = es; uses = lists.0 }) lists.1)

  -- whatever was loaded before is what is loaded again
  again_is : (x : Whole) (ts : List Trees) (es : List Entry) → load_at any z gs cs ≡ Ok x → LoadsTo any z gs cs ts es
      → (x.0 ≡ ts) × (x.1.entries ≡ es)
  again_is x ts es is h =
      let again = loads_again ts es h in
      let both : x ≡ (ts, record { entries = es; uses = again.0 }) = (let second = again.1 in cc) in
      (ap (λ (x : Whole). x.0) both, ap (λ (x : Whole). x.1.entries) both)

  pub loads_one_way : LoadsOneWay any z gs cs
  loads_one_way ts us es fs h g = let again = loads_again ts es h in again_is _ us fs again.1 g

  pub are_spelled : AreSpelled any z gs cs
  are_spelled trees es h = tables_spelled any 0 (first_listed gs) cs trees _ (loads_so any z gs cs trees es h).1.read

  pub loads_in_text_order : LoadsInTextOrder any z gs cs
  loads_in_text_order trees es h = lists_in_text_order any z gs cs trees _ (loads_so any z gs cs trees es h).1

  -- ---- the same of what a function gave, whatever holds what was loaded

  module _ {X : Type 0} (HoldsIt : X → List (List ℕ) → List Trees → List Entry → Type 0) where
    -- memory was refused, or the tables are bytes
    abbrev Fit : Result X LoadFault → Type 0
    Fit r = (r ≡ Err loads.NoMemory) ⊎ AreCodes cs

    fit_so : (x : X) → Fit (Ok x) → AreCodes cs
    fit_so x (inl want) = absurd cc
    fit_so x (inr fits) = fits

    pub given_sound : (r : Result X LoadFault) → Fit r → GivesBy HoldsIt any z gs r cs
        → IfOk r (λ x. (trees : List Trees) × (es : List Entry) × LoadsTo any z gs cs trees es × HoldsIt x cs trees es)
    given_sound (Ok x) fits g = (g.0, g.1.entries, subst LoadTells g.3 (loads_forward (fit_so x fits)), g.2)
    given_sound (Err e) fits g = tt

    pub given_few : (count : X → ℕ)
        → ((x : X) (trees : List Trees) (es : List Entry) → HoldsIt x cs trees es → count x ≡ length (methods_of es))
        → (r : Result X LoadFault) → Fit r → GivesBy HoldsIt any z gs r cs → IfOk r (λ x. count x ≤ most_methods)
    unfolding given_sound
    given_few count held (Ok x) fits g =
        let load = (given_sound (Ok x) fits g).2 in
        subst (λ n. n ≤ most_methods) (sym (held x g.0 g.1.entries g.2)) load.few
    given_few count held (Err e) fits g = tt

    pub given_one : (r : Result X LoadFault) → GivesBy HoldsIt any z gs r cs
        → IfOk r (λ x. (trees : List Trees) (es : List Entry) → LoadsTo any z gs cs trees es → HoldsIt x cs trees es)
    given_one (Ok x) g = λ trees es h.
        let is = again_is (g.0, g.1) trees es g.3 h in
        subst (λ (fs : List Entry). HoldsIt x cs trees fs) is.1 (subst (λ (ts : List Trees). HoldsIt x cs ts g.1.entries) is.0 g.2)
    given_one (Err e) g = tt

    pub given_complete : (r : Result X LoadFault) → GivesBy HoldsIt any z gs r cs
        → IfErr r (λ e. (e ≡ loads.NoMemory) ⊎ ((trees : List Trees) (es : List Entry) → LoadsTo any z gs cs trees es → ⊥))
    given_complete (Ok x) g = tt
    given_complete (Err e) (inl g) = inl g
    given_complete (Err e) (inr g) = inr (λ trees es h. let again = loads_again trees es h in never _ e (load_at any z gs cs) again.1 g)

    pub given_true : (r : Result X LoadFault) → Fit r → GivesBy HoldsIt any z gs r cs
        → IfErr r (λ e. (e ≡ loads.NoMemory) ⊎ StopsFor any z gs cs e)
    given_true (Ok x) fits g = tt
    given_true (Err e) fits (inl g) = inl g
    given_true (Err e) (inl want) (inr g) = inl cc
    given_true (Err e) (inr fits) (inr g) = inr (subst LoadTells g (loads_forward fits))

  -- the tables are as short as before
  pub given_short : (r : Result Loaded LoadFault) → AreShort cs → GivesLoad any z gs r cs
      → IfOk r (λ x. AreShort (codes_view x.tables.items))
  given_short (Ok x) short g = subst AreShort (sym g.2.tables) short
  given_short (Err e) short g = tt

-- ---- a table of several, read behind those in front of it

module _ (any : Bool) (n : ℕ) (m : Listed) (front : List Trees) (codes : List (List ℕ)) (code : List ℕ) (inside : n < length codes)
    (there : code ≡ get_or codes n code) where
  next : Trees × Listed → Result Whole LoadFault
  next one = tables_at any (n + 1) (front ++ one.0 ∷ []) one.1 (drop (n + 1) codes)

  steps : tables_at any n front m (drop n codes) ≡ table_at any n m code >>= next
  unfolding tables_at next
  steps =
      let cut : drop n codes ≡ code ∷ drop (n + 1) codes = drop_more codes n code inside ∙ ap (λ c. c ∷ drop (n + 1) codes) (sym there) in
      let up : suc n ≡ n + 1 = omega arith in
      ap (tables_at any n front m) cut
      ∙ (λ i. table_at any n m code >>= λ one. tables_at any (up i) (front ++ one.0 ∷ []) one.1 (drop (n + 1) codes))

  pub read_on : (ts : Trees) (k : Listed) (all : List Trees) (same : List (List ℕ)) (total : Result Whole LoadFault)
      → table_at any n m code ≡ Ok (ts, k)
      → all ≡ front ++ ts ∷ [] → same ≡ codes → tables_at any n front m (drop n codes) ≡ total
      → tables_at any (n + 1) all k (drop (n + 1) same) ≡ total
  unfolding next
  read_on ts k all same total is a c was =
      (λ i. tables_at any (n + 1) (a i) k (drop (n + 1) (c i))) ∙ sym (steps ∙ ap (λ (r : Result (Trees × Listed) LoadFault). r >>= next) is) ∙ was

  pub fails_on : (e : LoadFault) (total : Result Whole LoadFault) → Fails e (table_at any n m code)
      → tables_at any n front m (drop n codes) ≡ total → Fails e total
  fails_on e total (inl want) was = inl want
  fails_on e total (inr is) was = inr (sym was ∙ steps ∙ ap (λ (r : Result (Trees × Listed) LoadFault). r >>= next) is)

-- a table by its number is short where all are
pub short_code : (bs : List (Bor (List ℕ))) (i : ℕ) (other : Bor (List ℕ)) → AreShort (codes_view bs)
    → length other.now ≤ 16777216
    → length (slice_index_or bs i other).now ≤ 16777216
short_code [] i other h o = o
short_code (b ∷ bs) zero other h o = h.0
short_code (b ∷ bs) (suc i) other h o = short_code bs i other h.1 o
