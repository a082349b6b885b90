-- Terms that tables read as, where the code outside methods may run, declare by themselves what the reading leaves
-- behind them: a term does what its step does, since no term with terms inside it is a method.
use Rattle.std.proofs.Common.{◌≡◌, ℕ, suc, Bool, true, false, cond, List, [], ◌∷◌, length, Option, Some, None, Result, Ok}
use Rattle.std.proofs.Common.{refl, sym, ap, ◌∙◌, ◌-◌, ◌+◌}
use Rattle.std.specs.Option.{option_map, unwrap_or}
use Rattle.aml_code.specs.declared.packages.PkgWidth.{PkgWidth}
use Rattle.aml_code.specs.declared.rows.Position.{Position}
use Rattle.aml_code.specs.declared.rows.Position.TheVariants as positions
use Rattle.aml_code.specs.declared.rows.Role.{Role}
use Rattle.aml_code.specs.declared.rows.Role.TheVariants as roles
use Rattle.aml_code.specs.Faults.{most_levels}
use Rattle.aml_code.specs.Lawful.{next_position}
use Rattle.aml_code.specs.Opcodes.{Row, rows, row_of}
use Rattle.aml_code.specs.Tree.{Tree, nothing, named, op, Trees, no_trees, tree_more, Parts, terms, body}
use Rattle.aml_code.proofs.RowFacts.{rows_say}
use Rattle.aml_parse.specs.Running.{has_terms, is_block, ReadsTerms, Opens}
use Rattle.aml_load.specs.declared.faults.LoadFault.{LoadFault}
use Rattle.aml_load.specs.Declaring.{◌>>=◌, Listed}
use Rattle.aml_load.specs.Loading.{role_of}
use Rattle.aml_load.specs.Running.{Front, table_front, asked, enter_as, entered_at, behind_tree, behind_inside}
use Rattle.aml_load.specs.Running.{behind_trees, behind_tables, run_names}
use Rattle.aml_load.specs.Tables.{ReadTables}
use Rattle.aml_load.proofs.SpanLaws.{role_is}

-- ---- a term with terms inside it, and its step

-- whether a term that does this may have terms inside it
opens_terms : Role → Bool
opens_terms (roles.Declares o) = true
opens_terms roles.Scope = true
opens_terms roles.Guard = true
opens_terms roles.Other = true
opens_terms _ = false

row_opens : (o : ℕ) (r : Row) → row_of o ≡ Some r → has_terms r.tail ≡ true → opens_terms r.role ≡ true
unfolding rows opens_terms
row_opens o r listed block = rows_say (λ r. has_terms r.tail) (λ r. opens_terms r.role) refl o r listed block

block_opens : (o : ℕ) (row : Option Row) → row_of o ≡ row
    → unwrap_or (option_map (λ (r : Row). has_terms r.tail) row) false ≡ true → opens_terms (role_of o) ≡ true
block_opens o None listed block = absurd cc
block_opens o (Some r) listed block = ap opens_terms (role_is o r listed) ∙ row_opens o r listed block

module _ (ps : Parts) (ts : Trees) (start len : ℕ) where
  same_role : (role : Role) (f : Front) → opens_terms role ≡ true
      → enter_as role f ps (terms ts) ≡ enter_as role f ps (body start len)
  unfolding enter_as opens_terms
  same_role (roles.Declares d) f h = refl
  same_role roles.Scope f h = refl
  same_role roles.Guard f h = refl
  same_role roles.Other f h = refl
  same_role _ f h = absurd cc

  -- what it declares itself is the same with the terms in place of their span
  pub same_entered : (f : Front) (o : ℕ) (w : Option PkgWidth) → is_block (op o w ps (body start len)) ≡ true
      → entered_at f (op o w ps (terms ts)) ≡ entered_at f (op o w ps (body start len))
  unfolding entered_at
  same_entered f o w block =
      same_role (role_of o) (asked f (op o w ps (body start len))) (block_opens o (row_of o) refl block)

-- ---- what stands behind terms

abbrev the_front : Front → Result Front LoadFault
the_front f = Ok f

-- a term without an opcode, and its front
abbrev alone : Front → Tree → Front
alone f x = cond f.site.any_run (asked f x) f

-- behind a term, by the front behind the terms inside it
abbrev behind : Front → Front → Result Front LoadFault
behind f ended = Ok (record f { listed = ended.listed })

-- a term without an opcode, which stays where it is
passed : (f inner ended : Front) (x : Tree) → the_front (alone f x) ≡ Ok inner → inner ≡ ended
    → the_front (alone f x) ≡ behind f ended
passed f inner ended x is same =
    let here : alone f x ≡ ended = cc in by f.site.any_run ∙ ap (λ (k : Front). behind f k) here
  where
    by : (any : Bool) → the_front (cond any (asked f x) f) ≡ behind f (cond any (asked f x) f)
    by true = refl
    by false = refl

module _ (t : ℕ) (code : List ℕ) where
  mutual
    unfolding entered_at behind_tree behind_inside behind_trees

    -- terms of a span
    pub read_behind : (levels : ℕ) (p : Position) (at end : ℕ) (f : Front) (ts : Trees) (g : Front)
        → ReadsTerms (run_names t) code levels p at end f ts g → behind_trees f ts ≡ Ok g
    read_behind levels p at end f no_trees g h = ap (λ (k : Front). Ok k) h.1
    read_behind levels p at end f (tree_more x ts) g (head, next, inner, ended, reads, is, opens, rest) =
        ap (λ (r : Result Front LoadFault). r >>= λ k. behind_trees k ts) (opened_behind levels f inner ended head x is opens)
        ∙ read_behind levels (next_position p head) next end (record f { listed = ended.listed }) ts g rest

    -- the term of a step
    pub opened_behind : (levels : ℕ) (f inner ended : Front) (head x : Tree) → entered_at f head ≡ Ok inner
        → Opens (run_names t) code levels head inner x ended → behind_tree f x ≡ behind f ended
    opened_behind levels f inner ended head (op o w ps (terms ts)) is (start, len, same, block, read) =
        let entered : entered_at f (op o w ps (terms ts)) ≡ Ok inner =
        same_entered ps ts start len f o w (ap is_block (sym same) ∙ block) ∙ ap (entered_at f) (sym same) ∙ is in
        ap (λ (r : Result Front LoadFault). r >>= λ i. (behind_trees i ts >>= λ e. behind f e)) entered
        ∙ ap (λ (r : Result Front LoadFault). r >>= λ e. behind f e)
        (read_behind (levels - 1) positions.RunTerm start (start + len) inner ts ended read)
    opened_behind levels f inner ended head nothing is h =
        passed f inner ended nothing (ap (entered_at f) (sym h.0) ∙ is) h.2
    opened_behind levels f inner ended head (named n xs) is h =
        passed f inner ended (named n xs) (ap (entered_at f) (sym h.0) ∙ is) h.2
    opened_behind levels f inner ended head (op o w ps x) is h =
        ap (λ (r : Result Front LoadFault). r >>= λ i. (behind_inside i x >>= λ e. behind f e))
        (ap (entered_at f) (sym h.0) ∙ is)
        ∙ ap (λ (k : Front). behind f k) h.2

-- the tables from number t on
pub tables_behind : (t : ℕ) (l : Listed) (codes : List (List ℕ)) (trees : List Trees) (m : Listed)
    → ReadTables true t l codes trees m → behind_tables true t l trees ≡ Ok m
unfolding behind_tables
tables_behind t l [] [] m read = ap (λ (k : Listed). Ok k) read
tables_behind t l [] (ts ∷ rest) m read = absurd read
tables_behind t l (c ∷ codes) [] m read = absurd read
tables_behind t l (c ∷ codes) (ts ∷ rest) m (k, (g, reads, same), read) =
    ap (λ (r : Result Front LoadFault). (r >>= λ f. Ok f.listed) >>= λ j. behind_tables true (suc t) j rest)
    (read_behind t c most_levels positions.RunTerm 0 (length c) (table_front true t l) ts g reads)
    ∙ ap (λ (j : Listed). behind_tables true (suc t) j rest) same ∙ tables_behind (suc t) k codes rest m read
