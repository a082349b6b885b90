-- Each run of tables is a selection of what is listed (`runs_are_selections`): by induction over their terms, beside
-- the reading from the left. What a run goes through keeps the selection (`terms_ran`), and so does what it passes over,
-- where nothing is sure (`terms_past`).
use Rattle.std.proofs.Common.{◌≡◌, ℕ, suc, ◌+◌, ◌-◌, Bool, true, false, not, List, [], ◌∷◌, length, Option, Some, None}
use Rattle.std.proofs.Common.{Result, Ok, refl, sym, ap, subst, ◌∙◌, inl, inr, is_some}
use Rattle.std.proofs.lemmas.Bool.{false≢true}
use Rattle.std.specs.Option.{option_map, unwrap_or, option_or}
use Rattle.aml_names.specs.declared.segments.Seg.{Seg}
use Rattle.aml_names.specs.Searching.{candidates}
use Rattle.aml_code.specs.declared.packages.PkgWidth.{PkgWidth}
use Rattle.aml_code.specs.declared.rows.Position.{Position}
use Rattle.aml_code.specs.declared.rows.Position.TheVariants as positions
use Rattle.aml_code.specs.declared.rows.Role.TheVariants as roles
use Rattle.aml_code.specs.Lawful.{next_position}
use Rattle.aml_code.specs.Opcodes.{Row, rows, row_of}
use Rattle.aml_code.specs.Tree.{Tree, nothing, named, op, Trees, no_trees, tree_more, Parts, Tail, terms, body}
use Rattle.aml_code.specs.Faults.{most_levels}
use Rattle.aml_code.proofs.RowFacts.{rows_say}
use Rattle.aml_parse.specs.Running.{has_terms, is_block, ReadsTerms, Opens}
use Rattle.aml_namespace.specs.Namespace.{Entry, given, given_entries, Givens, Namespace, arity_of}
use Rattle.aml_namespace.specs.Runs.{IsRun, Finds, EveryRunAgrees, outlook_of, counts_met, common, arity_met}
use Rattle.aml_namespace.specs.Runs as runs
use Rattle.aml_load.specs.declared.faults.LoadFault.{LoadFault}
use Rattle.aml_load.specs.Declaring.{Listed, with_uses, first_listed}
use Rattle.aml_load.specs.Loading.{role_of}
use Rattle.aml_load.specs.Running.{Front, asked, entered_at, run_names}
use Rattle.aml_load.specs.Tables.{ReadTables}
use Rattle.aml_load.proofs.Relating.{loads_so}
use Rattle.aml_runs.specs.TableRuns.{Runs, RunTerms, RunTables, IsSelection, RunsAreSelections, EveryRunOfTablesAgrees}
use Rattle.aml_runs.proofs.Leading.{run_finds}
use Rattle.aml_load.proofs.Doing.{run_site as site_at, front, is_flat}
use Rattle.aml_runs.proofs.Entering.{inwards, past, flat, enter_ran, enter_past}

-- ---- Terms stand only inside what loading goes into.

row_deep : (o : ℕ) (r : Row) → row_of o ≡ Some r → is_flat r.role ≡ true → not (has_terms r.tail) ≡ true
unfolding rows
row_deep o r listed bare = rows_say (λ r. is_flat r.role) (λ r. not (has_terms r.tail)) refl o r listed bare

block_deep : (o : ℕ) (w : Option PkgWidth) (ps : Parts) (x : Tail) → is_block (op o w ps x) ≡ true
    → is_flat (role_of o) ≡ true → ⊥
unfolding role_of
block_deep o w ps x block bare = by (row_of o) refl block bare
  where
    by : (row : Option Row) → row_of o ≡ row
        → unwrap_or (option_map (λ (r : Row). has_terms r.tail) row) false ≡ true
        → is_flat (unwrap_or (option_map (λ (r : Row). r.role) row) roles.Other) ≡ true → ⊥
    by None listed block bare = false≢true block
    by (Some r) listed block bare = false≢true (sym (ap not block) ∙ row_deep o r listed bare)

-- ---- Terms.

module _ (t : ℕ) (code : List ℕ) where
  abbrev the_front : Front → Result Front LoadFault
  the_front f = Ok f

  passed_by : (f inner : Front) (x : Tree) (n : List Entry) → the_front (asked f x) ≡ Ok inner
      → IsSelection f.listed.entries n → IsSelection inner.listed.entries n
  passed_by f inner x n is selects = let same : asked f x ≡ inner = cc in
      subst (λ (g : Front). IsSelection g.listed.entries n) same selects

  mutual
    unfolding entered_at

    terms_past : (levels : ℕ) (p : Position) (at end : ℕ) (s : List Seg) (l : Listed) (ts : Trees) (g : Front) (n : List Entry)
        → ReadsTerms (run_names t) code levels p at end (front t s false l) ts g → IsSelection l.entries n
        → IsSelection g.listed.entries n
    terms_past levels p at end s l no_trees g n h selects = subst (λ (f : Front). IsSelection f.listed.entries n) h.1 selects
    terms_past levels p at end s l (tree_more x ts) g n (head, behind, inner, last, reads, is, opens, rest) selects =
        terms_past levels (next_position p head) behind end s last.listed ts g n rest
        (term_past levels s l inner last head x n is opens selects)

    term_past : (levels : ℕ) (s : List Seg) (l : Listed) (inner last : Front) (head x : Tree) (n : List Entry)
        → entered_at (front t s false l) head ≡ Ok inner → Opens (run_names t) code levels head inner x last
        → IsSelection l.entries n → IsSelection last.listed.entries n
    term_past levels s l inner last head (op o w ps (terms ts)) n is (start, len, same, block, read) selects =
        let x = body start len in
        let went = enter_past t s (with_uses (site_at t s false) l (op o w ps x)) n selects ps inner (role_of o) x
        (ap (entered_at (front t s false l)) (sym same) ∙ is) in
        terms_past (levels - 1) positions.RunTerm start (start + len) went.0 went.1 ts last n
        (subst (λ (f : Front). ReadsTerms (run_names t) code (levels - 1) positions.RunTerm start (start + len) f ts last) went.2 read) went.3
    term_past levels s l inner last head nothing n is h selects = subst (λ (f : Front). IsSelection f.listed.entries n) h.2
        (passed_by (front t s false l) inner nothing n (ap (entered_at (front t s false l)) (sym h.0) ∙ is) selects)
    term_past levels s l inner last head (named name xs) n is h selects = subst (λ (f : Front). IsSelection f.listed.entries n) h.2
        (passed_by (front t s false l) inner (named name xs) n (ap (entered_at (front t s false l)) (sym h.0) ∙ is) selects)
    term_past levels s l inner last head (op o w ps x) n is h selects =
        let went = enter_past t s (with_uses (site_at t s false) l (op o w ps x)) n selects ps inner (role_of o) x
        (ap (entered_at (front t s false l)) (sym h.0) ∙ is) in
        subst (λ (f : Front). IsSelection f.listed.entries n) (sym went.2 ∙ h.2) went.3

  mutual
    unfolding entered_at

    terms_ran : (levels : ℕ) (p : Position) (at end : ℕ) (s : List Seg) (b : Bool) (l : Listed) (ts : Trees) (g : Front)
        (whole : Bool) (n m : List Entry)
        → ReadsTerms (run_names t) code levels p at end (front t s b l) ts g → (whole ≡ false → b ≡ false)
        → IsSelection l.entries n → RunTerms whole s n ts m → IsSelection g.listed.entries m
    terms_ran levels p at end s b l no_trees g whole n m h part selects ran =
        subst (λ (f : Front). IsSelection f.listed.entries m) h.1 (subst (λ j. IsSelection l.entries j) (sym ran) selects)
    terms_ran levels p at end s b l (tree_more x ts) g whole n m h part selects (inl (stops, same)) =
        terms_past levels p at end s l (tree_more x ts) g m
        (subst (λ c. ReadsTerms (run_names t) code levels p at end (front t s c l) (tree_more x ts) g) (part stops) h)
        (subst (λ j. IsSelection l.entries j) (sym same) selects)
    terms_ran levels p at end s b l (tree_more x ts) g whole n m (head, behind, inner, last, reads, is, opens, rest) part selects (inr (k, ran, more)) =
        terms_ran levels (next_position p head) behind end s b last.listed ts g whole k m rest part
        (term_ran levels s b l inner last head x n k is opens selects ran) more

    term_ran : (levels : ℕ) (s : List Seg) (b : Bool) (l : Listed) (inner last : Front) (head x : Tree) (n m : List Entry)
        → entered_at (front t s b l) head ≡ Ok inner → Opens (run_names t) code levels head inner x last
        → IsSelection l.entries n → Runs s n x m → IsSelection last.listed.entries m
    term_ran levels s b l inner last head nothing n m is h selects ran = subst (λ (f : Front). IsSelection f.listed.entries m) h.2
        (passed_by (front t s b l) inner nothing m (ap (entered_at (front t s b l)) (sym h.0) ∙ is)
        (subst (λ j. IsSelection l.entries j) (sym ran) selects))
    term_ran levels s b l inner last head (named name xs) n m is h selects ran = subst (λ (f : Front). IsSelection f.listed.entries m) h.2
        (passed_by (front t s b l) inner (named name xs) m (ap (entered_at (front t s b l)) (sym h.0) ∙ is)
        (subst (λ j. IsSelection l.entries j) (sym ran) selects))
    term_ran levels s b l inner last head (op o w ps (terms ts)) n m is (start, len, same, block, read) selects ran =
        let x = body start len in
        elim (enter_ran t s (with_uses (site_at t s b) l (op o w ps x)) n selects ps inner (role_of o) b m x (terms ts) _ refl
        (ap (entered_at (front t s b l)) (sym same) ∙ is) ran) [
          | inwards whole p c k j there part selects ran ↦
              terms_ran (levels - 1) positions.RunTerm start (start + len) p c k ts last whole j m
              (subst (λ (f : Front). ReadsTerms (run_names t) code (levels - 1) positions.RunTerm start (start + len) f ts last) there read)
              part selects ran
          | past p k there selects ↦ terms_past (levels - 1) positions.RunTerm start (start + len) p k ts last m
              (subst (λ (f : Front). ReadsTerms (run_names t) code (levels - 1) positions.RunTerm start (start + len) f ts last) there read) selects
          | flat bare selects ↦ absurd (block_deep o w ps x (ap is_block (sym same) ∙ block) bare)
        ]
    term_ran levels s b l inner last head (op o w ps x) n m is h selects ran =
        subst (λ (f : Front). IsSelection f.listed.entries m) h.2
        (elim (enter_ran t s (with_uses (site_at t s b) l (op o w ps x)) n selects ps inner (role_of o) b m x x _ refl
        (ap (entered_at (front t s b l)) (sym h.0) ∙ is) ran) [
          | inwards whole p c k j there part selects ran ↦ subst (λ (f : Front). IsSelection f.listed.entries m) (sym there)
              (subst (λ i. IsSelection k.entries i) (sym ran) selects)
          | past p k there selects ↦ subst (λ (f : Front). IsSelection f.listed.entries m) (sym there) selects
          | flat bare selects ↦ selects
        ])

-- ---- Tables.

tables_ran : (t : ℕ) (l : Listed) (codes : List (List ℕ)) (trees : List Trees) (m : Listed) (n k : List Entry)
    → ReadTables true t l codes trees m → IsSelection l.entries n → RunTables n trees k
    → IsSelection m.entries k
tables_ran t l [] [] m n k same selects ran =
    subst (λ (j : Listed). IsSelection j.entries k) same (subst (λ j. IsSelection l.entries j) (sym ran) selects)
tables_ran t l (c ∷ cs) (ts ∷ rest) m n k (mid, (f, reads, same), more) selects (j, ran, later) =
    tables_ran (suc t) mid cs rest m j k more
    (subst (λ (i : Listed). IsSelection i.entries j) same
    (terms_ran t c most_levels positions.RunTerm 0 (length c) [] true l ts f true n j reads (λ h. absurd (false≢true (sym h))) selects ran))
    later
tables_ran t l [] (ts ∷ rest) m n k h selects ran = absurd h
tables_ran t l (c ∷ cs) [] m n k h selects ran = absurd h

-- nothing is kept of what the user gives
givens_missed : (gs : Givens) → IsRun (given_entries gs) []
givens_missed [] = runs.ended
givens_missed (g ∷ gs) = runs.missed (given g.0 g.1) refl (givens_missed gs)

pub runs_are_selections : (unknown_zero : Bool) (gs : Givens) (tables : List (List ℕ))
    → RunsAreSelections unknown_zero gs tables
runs_are_selections unknown_zero gs tables trees es loads n ran =
    let lists = loads_so true unknown_zero gs tables trees es loads in
    tables_ran 0 (first_listed gs) tables trees (record { entries = es; uses = lists.0 }) [] n lists.1.read (record { kept = []; run = givens_missed gs; same = refl }) ran

-- the count that all kinds agree on is the one that every run agrees on
told : (ns : List ℕ) (differ unmet : Option ℕ) → is_some (common ns) ≡ true → arity_met ns differ unmet ≡ common ns
told [] differ unmet some = absurd (false≢true some)
told (n ∷ ns) differ unmet some = by (common (n ∷ ns)) some
  where
    by : (o : Option ℕ) → is_some o ≡ true → option_or o differ ≡ o
    by None some = absurd (false≢true some)
    by (Some c) some = refl

-- what holds of each selection of entries holds of each run of tables
pub by_selections : ((es : List Entry) → EveryRunAgrees es) → (unknown_zero : Bool) (gs : Givens) (tables : List (List ℕ))
    → RunsAreSelections unknown_zero gs tables → EveryRunOfTablesAgrees unknown_zero gs tables
by_selections agrees unknown_zero gs tables selections trees es loads n ran zero_too scope locals name some finds =
    let s = selections trees es loads n ran in
    ap (λ (k : Namespace). arity_of k zero_too scope locals name) s.same
    ∙ agrees es s.kept s.run zero_too scope locals name some
    (subst (λ (k : Namespace). Finds k locals scope name) s.same (run_finds trees n ran locals scope name finds))
    ∙ told (counts_met (outlook_of es) locals (candidates scope name)) _ _ some
