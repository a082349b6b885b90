-- What tables load to is what loading them step by step lists, and the other way round: terms that declare behind some
-- entries are those that are declared forward, and their names agree where each of them does.
use Rattle.std.specs.FinSet as set
use Rattle.std.specs.Option.{option_map, unwrap_or}
use Rattle.std.proofs.Common.{◌≡◌, ◌≤◌, ◌⊎◌, inl, inr, ℕ, zero, suc, ◌-◌, ◌+◌, Bool, true, false, not, List, [], ◌∷◌, ◌++◌, length, Option}
use Rattle.std.proofs.Common.{Some, None, Result, Ok, refl, sym, ap, subst, ◌∙◌, arith}
use Rattle.std.proofs.lemmas.List.{length-append}
use Rattle.std.proofs.lemmas.List.Elements.{All-nil, All-append}
use Rattle.aml_names.specs.declared.segments.Seg.{Seg}
use Rattle.aml_names.specs.declared.names.Name.{Name}
use Rattle.aml_names.specs.Paths.{PathSet}
use Rattle.aml_code.specs.declared.packages.PkgWidth.{PkgWidth}
use Rattle.aml_code.specs.declared.rows.Position.{Position}
use Rattle.aml_code.specs.declared.rows.Position.TheVariants as positions
use Rattle.aml_code.specs.declared.rows.Role.{Role}
use Rattle.aml_code.specs.declared.rows.Role.TheVariants as roles
use Rattle.aml_code.specs.declared.rows.TailKind.{TailKind}
use Rattle.aml_code.specs.declared.rows.TailKind.TheVariants as tails
use Rattle.aml_code.specs.Lawful.{Setting, setting_of, IsLawful, AreTerms, IsTail, next_position}
use Rattle.aml_code.specs.Lawful.{terms_in, after, after_tail, after_all, declared_by, no_arguments, field_names}
use Rattle.aml_code.specs.Opcodes.{Row, rows, row_of}
use Rattle.aml_code.specs.Tree.{Tree, nothing, named, op, Trees, no_trees, tree_more, Parts, Tail, terms}
use Rattle.aml_code.proofs.RowFacts.{rows_say, not_true}
use Rattle.aml_code.proofs.Takers.{taker_takes}
use Rattle.aml_parse.specs.Reading.{takes_names}
use Rattle.aml_parse.specs.Running.{has_terms, is_block, ReadsTerms, Opens}
use Rattle.aml_parse.proofs.Forward.{is_run, runs_on}
use Rattle.aml_namespace.specs.Namespace.{Entry, Givens}
use Rattle.aml_load.specs.declared.faults.LoadFault.{LoadFault}
use Rattle.aml_load.specs.Declaring.{◌>>=◌, Listed, Use, first_listed, with_uses, term_uses, most_methods}
use Rattle.aml_load.specs.Loading.{role_of, Where, methods_of, in_declaration, AddsUnits, Does, DoesTerm, Agrees}
use Rattle.aml_load.specs.Loading.{TermsDeclare, TermDeclares, TermsRead, TermReads, TableLoads, TablesLoad, LoadsTo}
use Rattle.aml_load.specs.Running.{Front, table_front, enter_as, entered_at, behind_tree, behind_inside, behind_trees, run_names}
use Rattle.aml_load.specs.Tables.{ReadsOne, ReadTables, ListsTo}
use Rattle.aml_load.proofs.Agreeing.{AgreesOne, Agree, All-left, All-right, told, module_agrees, module_told, run_agrees}
use Rattle.aml_load.proofs.Agreeing.{emptied, run_told}
use Rattle.aml_load.proofs.Doing.{DoesBy, Shaped, shaped, does_is, does_so, bound, with_entries, site_in, front_in}
use Rattle.aml_load.proofs.Doing.{run_site, front, enter_is, enter_so, is_flat}
use Rattle.aml_load.proofs.Holding.{methods_more}
use Rattle.aml_load.proofs.NoSpans.{terms_tail}
use Rattle.aml_load.proofs.RunSpans.{lists_in_text_order}
use Rattle.aml_load.proofs.SpanLaws.{role_is, inside_in_table, next_in_table, kept_in_table}

-- ---- there don't become fewer methods

abbrev Fewer : List Entry → List Entry → Type 0
Fewer es fs = length (methods_of es) ≤ length (methods_of fs)

same_fewer : (es fs : List Entry) → es ≡ fs → Fewer es fs
same_fewer es fs same = subst (λ gs. Fewer es gs) same (omega arith)

one_fewer : (es fs : List Entry) (x : Entry) → fs ≡ es ++ x ∷ [] → Fewer es fs
one_fewer es fs x same =
    omega (arith, ap (λ gs. length (methods_of gs)) same, ap length (methods_more es x), length-append (methods_of es) (methods_of (x ∷ [])))

units_fewer : (site : Where) (es : List Entry) (ns : List Name) (fs : List Entry) → AddsUnits site es ns fs → Fewer es fs
units_fewer site es [] fs same = same_fewer es fs same
units_fewer site es (n ∷ ns) fs (gs, new, rest) = omega (arith, one_fewer es gs _ new.3, units_fewer site gs ns fs rest)

does_fewer : (r : Role) (site : Where) (es : List Entry) (ps : Parts) (x : Tail) (fs : List Entry) (below : Where)
    → Does r site es ps x fs below → Fewer es fs
does_fewer r site es ps x fs below does = by r (does_so site es fs below r ps x does)
  where
    by : (r : Role) → DoesBy r site es ps x fs below → Fewer es fs
    by (roles.Declares o) h = one_fewer es fs _ h.1.3
    by roles.Method h = one_fewer es fs _ h.3
    by roles.Scope h = same_fewer es fs h.1
    by roles.Alias h = one_fewer es fs _ h.2.3
    by roles.External h = one_fewer es fs _ h.2
    by roles.Fields h = units_fewer site es (field_names x) fs h
    by roles.Guard h = same_fewer es fs h.0
    by roles.Other h = same_fewer es fs h.0

head_fewer : (site : Where) (es : List Entry) (x : Tree) (fs : List Entry) (below : Where) → DoesTerm site es x fs below
    → Fewer es fs
head_fewer site es nothing fs below h = same_fewer es fs h
head_fewer site es (named n ts) fs below h = same_fewer es fs h
head_fewer site es (op o w ps r) fs below h = does_fewer (role_of o) site es ps r fs below h

-- ---- what a term declares, and what the terms inside it do

-- the terms inside a term
abbrev InsideDeclares : Bool → List Entry → List ℕ → Where → List Entry → Tail → List Entry → Type 0
InsideDeclares z last code site es (terms ts) fs = TermsDeclare z last code site es ts fs
InsideDeclares z last code site es r fs = es ≡ fs

module _ (z : Bool) (last : List Entry) (code : List ℕ) (site : Where) (es : List Entry) (o : ℕ) (w : Option PkgWidth)
    (ps : Parts) where
  -- an opcode by its tail, whatever that is
  abbrev OpDeclares : Tail → List Entry → Type 0
  OpDeclares r fs = (ms : List Entry) × (below : Where) × Agrees z last code positions.ModuleTerm site (op o w ps (emptied r))
      × Does (role_of o) site es ps r ms below × InsideDeclares z last code below ms r fs

  op_parts : (r : Tail) (fs : List Entry) → TermDeclares z last code site es (op o w ps r) fs → OpDeclares r fs
  op_parts (terms ts) fs h = h
  op_parts _ fs (below, agrees, does) = (fs, below, agrees, does, refl)

  op_whole : (r : Tail) (fs : List Entry) → OpDeclares r fs → TermDeclares z last code site es (op o w ps r) fs
  op_whole (terms ts) fs h = h
  op_whole r fs (ms, below, agrees, does, same) =
      (below, agrees, subst (λ (gs : List Entry). Does (role_of o) site es ps r gs below) same does)

module _ (z : Bool) (last : List Entry) (code : List ℕ) where
  mutual
    terms_fewer : (site : Where) (es : List Entry) (ts : Trees) (fs : List Entry)
        → TermsDeclare z last code site es ts fs → Fewer es fs
    terms_fewer site es no_trees fs h = same_fewer es fs h
    terms_fewer site es (tree_more x xs) fs (gs, one, rest) =
        omega (arith, term_fewer site es x gs one, terms_fewer site gs xs fs rest)

    term_fewer : (site : Where) (es : List Entry) (x : Tree) (fs : List Entry)
        → TermDeclares z last code site es x fs → Fewer es fs
    term_fewer site es nothing fs h = same_fewer es fs h
    term_fewer site es (named n ts) fs h = same_fewer es fs h
    term_fewer site es (op o w ps r) fs h =
        let d = op_parts z last code site es o w ps r fs h in
        omega (arith, does_fewer (role_of o) site es ps r d.0 d.1 d.3, inside_fewer d.1 d.0 r fs d.4)

    inside_fewer : (site : Where) (es : List Entry) (r : Tail) (fs : List Entry)
        → InsideDeclares z last code site es r fs → Fewer es fs
    inside_fewer site es (terms ts) fs h = terms_fewer site es ts fs h
    inside_fewer site es _ fs h = same_fewer es fs h

  mutual
    read_fewer : (levels : ℕ) (p : Position) (at end : ℕ) (site : Where) (es : List Entry) (ts : Trees) (fs : List Entry)
        → TermsRead z last code levels p at end site es ts fs → Fewer es fs
    read_fewer levels p at end site es no_trees fs h = same_fewer es fs h.1
    read_fewer levels p at end site es (tree_more x xs) fs (head, behind, inner, below, gs, step, agrees, does, opens, rest) =
        omega (
          arith,
          head_fewer site es head inner below does,
          opened_fewer levels head below inner x gs opens,
          read_fewer levels (next_position p head) behind end site gs xs fs rest,
        )

    opened_fewer : (levels : ℕ) (head : Tree) (below : Where) (es : List Entry) (x : Tree) (fs : List Entry)
        → TermReads z last code levels head below es x fs → Fewer es fs
    opened_fewer levels head below es (op o w ps (terms ts)) fs (start, len, same, block, read) =
        read_fewer (levels - 1) positions.RunTerm start (start + len) below es ts fs read
    opened_fewer levels head below es _ fs h = same_fewer es fs h.2

-- ---- the terms of a table keep no paths as declared

no_path : (f : Option Row) (ls : PathSet) (ps : Parts) (r : Tail) → declared_by None f ls ps r ≡ ls
no_path None ls ps r = refl
no_path (Some row) ls ps r = refl

mutual
  no_local : (ls : PathSet) (x : Tree) → after None ls x ≡ ls
  no_local ls nothing = refl
  no_local ls (named n ts) = refl
  no_local ls (op o w ps r) = no_path (row_of o) (after_tail None ls r) ps r ∙ no_inside ls r

  no_locals : (ls : PathSet) (ts : Trees) → after_all None ls ts ≡ ls
  no_locals ls no_trees = refl
  no_locals ls (tree_more x xs) = no_locals (after None ls x) xs ∙ no_local ls x

  no_inside : (ls : PathSet) (r : Tail) → after_tail None ls r ≡ ls
  no_inside ls (terms ts) = no_locals ls ts
  no_inside ls _ = refl

-- ---- what the rows say

row_flat : (o : ℕ) (r : Row) → row_of o ≡ Some r → has_terms r.tail ≡ true → not (is_flat r.role) ≡ true
unfolding rows
row_flat o r listed block = rows_say (λ r. has_terms r.tail) (λ r. not (is_flat r.role)) refl o r listed block

flat_no_block : (o : ℕ) (f : Option Row) → row_of o ≡ f
    → unwrap_or (option_map (λ (r : Row). has_terms r.tail) f) false ≡ true → is_flat (role_of o) ≡ true → ⊥
flat_no_block o None listed block flat = absurd cc
flat_no_block o (Some r) listed block flat =
    let deep = not_true _ (row_flat o r listed block) in
    let same = ap is_flat (role_is o r listed) in
    absurd (cc (deep, same, flat))

-- ---- the terms of a table that is read whole

module _ (z : Bool) (last : List Entry) (code : List ℕ) where
  both : (xs ys us : List Use) → us ≡ xs ++ ys → Agree z last us → Agree z last xs × Agree z last ys
  both xs ys us same all =
      let here = subst (Agree z last) same all in
      (All-left (AgreesOne z last) xs ys here, All-right (AgreesOne z last) xs ys here)

  one : (xs ys us : List Use) → us ≡ xs ++ ys → Agree z last xs → Agree z last ys → Agree z last us
  one xs ys us same left right = subst (Agree z last) (sym same) (All-append (AgreesOne z last) xs ys left right)

  module _ (t : ℕ) where
    abbrev read : Setting
    read = setting_of no_arguments None code

    abbrev IsKind : ℕ → Position → Option TailKind → Tail → Type 0
    IsKind levels q k r = IsTail read (IsLawful read levels) q k set.empty r

    abbrev here : List Seg → Bool → Where
    here = site_in false t

    abbrev at : List Seg → Bool → Listed → Front
    at = front_in false t

    -- behind a term stands the site in front of it
    stays : (s : List Seg) (b : Bool) (l : Listed) (x : Tree) (g : Front) → behind_tree (at s b l) x ≡ Ok g → g ≡ at s b g.listed
    unfolding behind_tree entered_at
    stays s b l (op o w ps r) g is =
        let inner = bound (entered_at (at s b l) (op o w ps r)) _ g is in
        let ended = bound (behind_inside inner.0 r) _ g inner.2 in
        let same : at s b ended.0.listed ≡ g = (let h = ended.2 in cc) in
        sym same ∙ ap (λ (f : Front). at s b f.listed) same
    stays s b l nothing g is = let same : at s b l ≡ g = cc in sym same ∙ ap (λ (f : Front). at s b f.listed) same
    stays s b l (named n ts) g is = let same : at s b l ≡ g = cc in sym same ∙ ap (λ (f : Front). at s b f.listed) same

    -- nothing more is listed
    still : (f g : Front) → f ≡ g → Agree z last g.listed.uses → (f.listed.entries ≡ g.listed.entries) × Agree z last f.listed.uses
    still f g same all = (ap (λ (k : Front). k.listed.entries) same, subst (λ (k : Front). Agree z last k.listed.uses) (sym same) all)

    mutual
      unfolding behind_trees behind_tree behind_inside entered_at

      all_is : (levels : ℕ) (p : Position) (s : List Seg) (b : Bool) (l : Listed) (ts : Trees) (g : Front) → levels ≤ 512
          → takes_names p ≡ false → AreTerms read levels p set.empty ts → behind_trees (at s b l) ts ≡ Ok g → Agree z last g.listed.uses
          → TermsDeclare z last code (here s b) l.entries ts g.listed.entries × Agree z last l.uses
      all_is levels p s b l no_trees g less h law is all = let same : at s b l ≡ g = cc in still (at s b l) g same all
      all_is levels p s b l (tree_more x xs) g less h law is all =
          let first = bound (behind_tree (at s b l) x) _ g is in
          let k = (first.0).listed in
          let on = subst (λ (f : Front). behind_trees f xs ≡ Ok g) (stays s b l x first.0 first.1) first.2 in
          let rest = all_is levels (next_position p x) s b k xs g less (next_in_table p x h)
          (subst (λ ls. AreTerms read levels (next_position p x) ls xs) (no_local set.empty x) law.1) on all in
          let one = tree_is levels p s b l x first.0 less h law.0 first.1 rest.1 in
          ((k.entries, one.0, rest.0), one.1)

      tree_is : (levels : ℕ) (p : Position) (s : List Seg) (b : Bool) (l : Listed) (x : Tree) (g : Front) → levels ≤ 512
          → takes_names p ≡ false → IsLawful read levels p set.empty x → behind_tree (at s b l) x ≡ Ok g → Agree z last g.listed.uses
          → TermDeclares z last code (here s b) l.entries x g.listed.entries × Agree z last l.uses
      tree_is levels p s b l nothing g less h law is all = let same : at s b l ≡ g = cc in still (at s b l) g same all
      tree_is levels p s b l (named n ts) g less h law is all = let same : at s b l ≡ g = cc in still (at s b l) g same all
      tree_is zero p s b l (op o w ps r) g less h law is all = absurd law
      tree_is (suc levels) p s b l (op o w ps r) g less h law is all =
          let asked = with_uses (here s b) l (op o w ps r) in
          let inner = bound (enter_as (role_of o) (at s b asked) ps r) _ g is in
          let ended = bound (behind_inside inner.0 r) _ g inner.2 in
          let same : at s b ended.0.listed ≡ g = (let h = ended.2 in cc) in
          let did = enter_is false t s b asked ps r (role_of o) inner.0 inner.1 in
          let k = did.0 in
          let kind = (law.row).tail in
          let q = terms_in p (law.row).place in
          let tail = subst (λ (k : Option TailKind). IsKind levels q k r) (kept_in_table p kind h) law.tail in
          let free = inside_in_table p o law.row h law.listed (taker_takes p (law.row).place law.taken) in
          let inside = inside_is levels q kind did.1 did.2 k r ended.0 (omega (arith, less)) free tail
          (subst (λ (f : Front). behind_inside f r ≡ Ok ended.0) did.3 ended.1)
          (subst (λ (f : Front). Agree z last f.listed.uses) (sym same) all) in
          let uses = both l.uses (term_uses (here s b) (op o w ps r)) k.uses did.4.1 inside.1 in (
            op_whole z last code (here s b) l.entries o w ps r g.listed.entries (
              k.entries,
              here did.1 did.2,
              module_agrees code z last (here s b) o w ps r no_arguments (suc levels) p less h law uses.1,
              does_is (here s b) l.entries k.entries (here did.1 did.2) (role_of o) ps r (shaped read (IsLawful read levels) p set.empty o w ps r law) did.4.0,
              subst (λ (f : Front). InsideDeclares z last code (here did.1 did.2) k.entries r f.listed.entries) same inside.0,
            ),
            uses.0,
          )

      inside_is : (levels : ℕ) (q : Position) (kind : Option TailKind) (s : List Seg) (b : Bool) (l : Listed) (r : Tail) (g : Front)
          → levels ≤ 512 → (kind ≡ Some tails.Terms → takes_names q ≡ false) → IsKind levels q kind r
          → behind_inside (at s b l) r ≡ Ok g → Agree z last g.listed.uses
          → InsideDeclares z last code (here s b) l.entries r g.listed.entries × Agree z last l.uses
      inside_is levels q kind s b l (terms ts) g less free law is all =
          let e = terms_tail read levels q set.empty kind ts law in
          all_is levels q s b l ts g less (free e.0) e.1 is all
      inside_is levels q kind s b l _ g less free law is all = let same : at s b l ≡ g = cc in still (at s b l) g same all

    -- ---- and back

    -- declaring forward lists these entries, and names that agree
    abbrev Listing : List Seg → Bool → Result Front LoadFault → List Entry → Type 0
    Listing s b r fs = (us : List Use) × (r ≡ Ok (at s b (record { entries = fs; uses = us }))) × Agree z last us

    -- inside a term in which none stand there are none
    no_terms : (s : List Seg) (b : Bool) (o : ℕ) (w : Option PkgWidth) (ps : Parts)
        → Agrees z last code positions.ModuleTerm (here s b) (op o w ps (terms no_trees)) → is_flat (role_of o) ≡ true → ⊥
    no_terms s b o w ps law flat =
        let kind = (law.row).tail in
        let q = terms_in positions.ModuleTerm (law.row).place in
        let counts = told code z last (here s b) (in_declaration (op o w ps (terms no_trees))) in
        let tail = subst (λ (k : Option TailKind). IsTail counts (IsLawful counts 511) q k set.empty (terms no_trees))
        (kept_in_table positions.ModuleTerm kind refl) law.tail in
        let e = terms_tail counts 511 q set.empty kind no_trees tail in
        flat_no_block o (Some law.row) law.listed (ap has_terms e.0) flat

    within : (s d : List Seg) (b c : Bool) (o : ℕ) (w : Option PkgWidth) (ps : Parts) (r : Tail) (below : Where) (es fs : List Entry)
        → Agrees z last code positions.ModuleTerm (here s b) (op o w ps (emptied r)) → (below ≡ here d c) ⊎ (is_flat (role_of o) ≡ true)
        → InsideDeclares z last code below es r fs → InsideDeclares z last code (here d c) es r fs
    within s d b c o w ps r below es fs law (inl same) inside =
        subst (λ (v : Where). InsideDeclares z last code v es r fs) same inside
    within s d b c o w ps (terms ts) below es fs law (inr flat) inside = absurd (no_terms s b o w ps law flat)
    within s d b c o w ps _ below es fs law (inr flat) inside = inside

    -- a term, by what stands behind the terms inside it
    abbrev ends : Front → Result Front LoadFault → Result Front LoadFault
    ends f r = r >>= λ e. Ok (record f { listed = e.listed })

    mutual
      unfolding behind_trees behind_tree behind_inside entered_at

      all_so : (s : List Seg) (b : Bool) (l : Listed) (ts : Trees) (fs : List Entry) → length (methods_of fs) ≤ most_methods
          → TermsDeclare z last code (here s b) l.entries ts fs → Agree z last l.uses → Listing s b (behind_trees (at s b l) ts) fs
      all_so s b l no_trees fs few same all = (l.uses, ap (λ es. Ok (at s b (with_entries l es))) same, all)
      all_so s b l (tree_more x xs) fs few (gs, first, rest) all =
          let one = tree_so s b l x gs (omega (arith, few, terms_fewer z last code (here s b) gs xs fs rest)) first all in
          let behind = all_so s b (record { entries = gs; uses = one.0 }) xs fs few rest one.2 in
          (behind.0, ap (λ (r : Result Front LoadFault). r >>= λ k. behind_trees k xs) one.1 ∙ behind.1, behind.2)

      tree_so : (s : List Seg) (b : Bool) (l : Listed) (x : Tree) (fs : List Entry) → length (methods_of fs) ≤ most_methods
          → TermDeclares z last code (here s b) l.entries x fs → Agree z last l.uses → Listing s b (behind_tree (at s b l) x) fs
      tree_so s b l nothing fs few same all = (l.uses, ap (λ es. Ok (at s b (with_entries l es))) same, all)
      tree_so s b l (named n ts) fs few same all = (l.uses, ap (λ es. Ok (at s b (with_entries l es))) same, all)
      tree_so s b l (op o w ps r) fs few h all =
          let d = op_parts z last code (here s b) l.entries o w ps r fs h in
          let asked = with_uses (here s b) l (op o w ps r) in
          let uses = one l.uses (term_uses (here s b) (op o w ps r)) asked.uses refl all (module_told code z last (here s b) o w ps r d.2) in
          let did = enter_so false t s b asked ps r (role_of o) d.0 d.1
          (omega (arith, few, inside_fewer z last code d.1 d.0 r fs d.4)) (does_so (here s b) l.entries d.0 d.1 (role_of o) ps r d.3) in
          let inside = inside_so did.0 did.1 (with_entries asked d.0) r fs few
          (within s did.0 b did.1 o w ps r d.1 d.0 fs d.2 did.3 d.4) uses in (
            inside.0,
            ap (λ (q : Result Front LoadFault). q >>= λ i. ends (at s b l) (behind_inside i r)) did.2 ∙ ap (ends (at s b l)) inside.1,
            inside.2,
          )

      inside_so : (s : List Seg) (b : Bool) (l : Listed) (r : Tail) (fs : List Entry) → length (methods_of fs) ≤ most_methods
          → InsideDeclares z last code (here s b) l.entries r fs → Agree z last l.uses → Listing s b (behind_inside (at s b l) r) fs
      inside_so s b l (terms ts) fs few h all = all_so s b l ts fs few h all
      inside_so s b l _ fs few same all = (l.uses, ap (λ es. Ok (at s b (with_entries l es))) same, all)

-- ---- the terms of a table that is read from the left

module _ (z : Bool) (last : List Entry) (code : List ℕ) (t : ℕ) where
  -- the parts of a term are those of its role
  abbrev Formed : Tree → Type 0
  Formed (op o w ps r) = Shaped (role_of o) ps r
  Formed x = Unit {0}

  formed : (s : Setting) (levels : ℕ) (p : Position) (x : Tree) → IsLawful s levels p set.empty x → Formed x
  formed s levels p nothing law = tt
  formed s levels p (named n ts) law = tt
  formed s zero p (op o w ps r) law = absurd law
  formed s (suc levels) p (op o w ps r) law = shaped s (IsLawful s levels) p set.empty o w ps r law

  -- a term's head, in front of what is inside it
  head_is : (s : List Seg) (b : Bool) (l : Listed) (head : Tree) (inner : Front) → Formed head → entered_at (front t s b l) head ≡ Ok inner
      → (k : Listed) × (d : List Seg) × (c : Bool) × (inner ≡ front t d c k)
      × DoesTerm (run_site t s b) l.entries head k.entries (run_site t d c)
      × (k.uses ≡ l.uses ++ term_uses (run_site t s b) head)
  unfolding entered_at
  head_is s b l nothing inner form is =
      let same : front t s b (with_uses (run_site t s b) l nothing) ≡ inner = cc in
      (with_uses (run_site t s b) l nothing, s, b, sym same, refl, refl)
  head_is s b l (named n ts) inner form is =
      let same : front t s b (with_uses (run_site t s b) l (named n ts)) ≡ inner = cc in
      (with_uses (run_site t s b) l (named n ts), s, b, sym same, refl, refl)
  head_is s b l (op o w ps r) inner form is =
      let did = enter_is true t s b (with_uses (run_site t s b) l (op o w ps r)) ps r (role_of o) inner is in
      (did.0, did.1, did.2, did.3, does_is (run_site t s b) l.entries (did.0).entries (run_site t did.1 did.2) (role_of o) ps r form did.4.0, did.4.1)

  mutual
    read_is : (levels : ℕ) (p : Position) (at end : ℕ) (s : List Seg) (b : Bool) (l : Listed) (ts : Trees) (g : Front)
        → levels ≤ 512 → is_run p ≡ true
        → ReadsTerms (run_names t) code levels p at end (front t s b l) ts g → Agree z last g.listed.uses
        → TermsRead z last code levels p at end (run_site t s b) l.entries ts g.listed.entries × Agree z last l.uses
    read_is levels p at end s b l no_trees g less run h all = (
      (h.0, ap (λ (f : Front). f.listed.entries) h.1),
      subst (λ (f : Front). Agree z last f.listed.uses) (sym h.1) all,
    )
    read_is levels p at end s b l (tree_more x xs) g less run (head, behind, inner, ended, step, is, opens, rest) all =
        let there = read_is levels (next_position p head) behind end s b ended.listed xs g less (runs_on p head run) rest all in
        let did = head_is s b l head inner (formed _ levels p head step.lawful) is in
        let k = did.0 in
        let inside = opened_is levels head did.1 did.2 k x ended less
        (subst (λ (f : Front). Opens (run_names t) code levels head f x ended) did.3 opens) there.1 in
        let uses = both z last code l.uses (term_uses (run_site t s b) head) k.uses did.5 inside.1 in (
          (
            head,
            behind,
            k.entries,
            run_site t did.1 did.2,
            ended.listed.entries,
            step,
            run_agrees code z last (run_site t s b) p run head ((run_names t).arity (front t s b l)) levels less step.lawful uses.1,
            did.4,
            inside.0,
            there.0,
          ),
          uses.0,
        )

    opened_is : (levels : ℕ) (head : Tree) (s : List Seg) (b : Bool) (l : Listed) (x : Tree) (ended : Front) → levels ≤ 512
        → Opens (run_names t) code levels head (front t s b l) x ended → Agree z last ended.listed.uses
        → TermReads z last code levels head (run_site t s b) l.entries x ended.listed.entries × Agree z last l.uses
    opened_is levels head s b l (op o w ps (terms ts)) ended less (start, len, same, block, read) all =
        let inner = read_is (levels - 1) positions.RunTerm start (start + len) s b l ts ended (omega (arith, less)) refl read all in
        ((start, len, same, block, inner.0), inner.1)
    opened_is levels head s b l _ ended less h all = (
      (h.0, h.1, ap (λ (f : Front). f.listed.entries) h.2),
      subst (λ (f : Front). Agree z last f.listed.uses) (sym h.2) all,
    )

  -- ---- and back

  abbrev Flat : Tree → Type 0
  Flat (op o w ps r) = is_flat (role_of o) ≡ true
  Flat t = Unit {0}

  head_so : (s : List Seg) (b : Bool) (l : Listed) (head : Tree) (inner : List Entry) (below : Where)
      → length (methods_of inner) ≤ most_methods → DoesTerm (run_site t s b) l.entries head inner below
      → (d : List Seg) × (c : Bool)
      × (entered_at (front t s b l) head ≡ Ok (front t d c (record { entries = inner; uses = l.uses ++ term_uses (run_site t s b) head })))
      × ((below ≡ run_site t d c) ⊎ Flat head)
  unfolding entered_at
  head_so s b l nothing inner below few same =
      (s, b, ap (λ es. Ok (front t s b (with_entries (with_uses (run_site t s b) l nothing) es))) same, inr tt)
  head_so s b l (named n ts) inner below few same =
      (s, b, ap (λ es. Ok (front t s b (with_entries (with_uses (run_site t s b) l (named n ts)) es))) same, inr tt)
  head_so s b l (op o w ps r) inner below few does =
      enter_so true t s b (with_uses (run_site t s b) l (op o w ps r)) ps r (role_of o) inner below few
      (does_so (run_site t s b) l.entries inner below (role_of o) ps r does)

  block_stands : (head : Tree) (below site : Where) → is_block head ≡ true → (below ≡ site) ⊎ Flat head → below ≡ site
  block_stands head below site block (inl same) = same
  block_stands nothing below site block (inr flat) = absurd cc
  block_stands (named n ts) below site block (inr flat) = absurd cc
  block_stands (op o w ps r) below site block (inr flat) = absurd (flat_no_block o (row_of o) refl block flat)

  abbrev Behind : (List Use → Type 0) → Type 0
  Behind Reads = (us : List Use) × Reads us × Agree z last us

  mutual
    read_so : (levels : ℕ) (p : Position) (at end : ℕ) (s : List Seg) (b : Bool) (l : Listed) (ts : Trees) (fs : List Entry)
        → length (methods_of fs) ≤ most_methods → is_run p ≡ true
        → TermsRead z last code levels p at end (run_site t s b) l.entries ts fs → Agree z last l.uses
        → Behind (λ us. ReadsTerms (run_names t) code levels p at end (front t s b l) ts (front t s b (record { entries = fs; uses = us })))
    read_so levels p at end s b l no_trees fs few run h all =
        (l.uses, (h.0, ap (λ es. front t s b (with_entries l es)) h.1), all)
    read_so levels p at end s b l (tree_more x xs) fs few run (head, behind, inner, below, gs, step, agrees, does, opens, rest) all =
        let fewer = read_fewer z last code levels (next_position p head) behind end (run_site t s b) gs xs fs rest in
        let inside = opened_fewer z last code levels head below inner x gs opens in
        let did = head_so s b l head inner below (omega (arith, few, fewer, inside)) does in
        let asked = l.uses ++ term_uses (run_site t s b) head in
        let uses = one z last code l.uses (term_uses (run_site t s b) head) asked refl all (run_told code z last (run_site t s b) p run head agrees) in
        let within = opened_so levels head below did.0 did.1 (record { entries = inner; uses = asked }) x gs (omega (arith, few, fewer)) did.3 opens uses in
        let there = read_so levels (next_position p head) behind end s b (record { entries = gs; uses = within.0 }) xs fs few (runs_on p head run) rest within.2 in (
          there.0,
          (
            head,
            behind,
            front t did.0 did.1 (record { entries = inner; uses = asked }),
            front t did.0 did.1 (record { entries = gs; uses = within.0 }),
            step,
            did.2,
            within.1,
            there.1,
          ),
          there.2,
        )

    opened_so : (levels : ℕ) (head : Tree) (below : Where) (s : List Seg) (b : Bool) (l : Listed) (x : Tree) (gs : List Entry)
        → length (methods_of gs) ≤ most_methods → (below ≡ run_site t s b) ⊎ Flat head
        → TermReads z last code levels head below l.entries x gs → Agree z last l.uses
        → Behind (λ us. Opens (run_names t) code levels head (front t s b l) x (front t s b (record { entries = gs; uses = us })))
    opened_so levels head below s b l (op o w ps (terms ts)) gs few stands (start, len, same, block, read) all =
        let site = block_stands head below (run_site t s b) block stands in
        let inner = read_so (levels - 1) positions.RunTerm start (start + len) s b l ts gs few refl
        (subst (λ (k : Where). TermsRead z last code (levels - 1) positions.RunTerm start (start + len) k l.entries ts gs) site read) all in
        (inner.0, (start, len, same, block, inner.1), inner.2)
    opened_so levels head below s b l _ gs few stands h all =
        (l.uses, (h.0, h.1, ap (λ es. front t s b (with_entries l es)) h.2), all)

-- ---- the tables, and the whole load

module _ (any z : Bool) (last : List Entry) where
  table_is : (mode : Bool) (t : ℕ) (l : Listed) (c : List ℕ) (ts : Trees) (m : Listed) → ReadsOne mode t l c ts m → Agree z last m.uses
      → TableLoads mode z last t l.entries c ts m.entries × Agree z last l.uses
  table_is false t l c ts m (law, is) all =
      let behind = bound (behind_trees (table_front false t l) ts) _ m is in
      let same : behind.0.listed ≡ m = (let h = behind.2 in cc) in
      let done = all_is z last c t 512 positions.ModuleTerm [] true l ts behind.0 (omega arith) refl law.lawful behind.1
      (subst (λ (n : Listed). Agree z last n.uses) (sym same) all) in
      ((law, subst (λ (n : Listed). TermsDeclare z last c (site_in false t [] true) l.entries ts n.entries) same done.0), done.1)
  table_is true t l c ts m (k, reads, same) all =
      let uses = subst (λ (n : Listed). Agree z last n.uses) (sym same) all in
      let done = read_is z last c t 512 positions.RunTerm 0 (length c) [] true l ts k (omega arith) refl reads uses in
      (subst (λ (n : Listed). TableLoads true z last t l.entries c ts n.entries) same done.0, done.1)

  tables_are : (t : ℕ) (l : Listed) (cs : List (List ℕ)) (trees : List Trees) (m : Listed)
      → ReadTables any t l cs trees m → Agree z last m.uses
      → TablesLoad any z last t l.entries cs trees m.entries × Agree z last l.uses
  tables_are t l [] [] m same all =
      (ap (λ (k : Listed). k.entries) same, subst (λ (k : Listed). Agree z last k.uses) (sym same) all)
  tables_are t l [] (ts ∷ rest) m read all = absurd read
  tables_are t l (c ∷ cs) [] m read all = absurd read
  tables_are t l (c ∷ cs) (ts ∷ rest) m (k, reads, read) all =
      let behind = tables_are (suc t) k cs rest m read all in
      let here = table_is any t l c ts k reads behind.1 in
      ((k.entries, here.0, behind.0), here.1)

  table_fewer : (mode : Bool) (t : ℕ) (es : List Entry) (c : List ℕ) (ts : Trees) (fs : List Entry)
      → TableLoads mode z last t es c ts fs → Fewer es fs
  table_fewer false t es c ts fs h = terms_fewer z last c _ es ts fs h.1
  table_fewer true t es c ts fs h = read_fewer z last c 512 positions.RunTerm 0 (length c) _ es ts fs h

  tables_fewer : (t : ℕ) (es : List Entry) (cs : List (List ℕ)) (trees : List Trees) (fs : List Entry)
      → TablesLoad any z last t es cs trees fs → Fewer es fs
  tables_fewer t es [] [] fs same = same_fewer es fs same
  tables_fewer t es [] (ts ∷ rest) fs h = absurd h
  tables_fewer t es (c ∷ cs) [] fs h = absurd h
  tables_fewer t es (c ∷ cs) (ts ∷ rest) fs (gs, one, behind) =
      omega (arith, table_fewer any t es c ts gs one, tables_fewer (suc t) gs cs rest fs behind)

  table_so : (mode : Bool) (t : ℕ) (l : Listed) (c : List ℕ) (ts : Trees) (fs : List Entry) → length (methods_of fs) ≤ most_methods
      → TableLoads mode z last t l.entries c ts fs → Agree z last l.uses
      → (us : List Use) × ReadsOne mode t l c ts (record { entries = fs; uses = us }) × Agree z last us
  table_so false t l c ts fs few (law, declares) all =
      let done = all_so z last c t [] true l ts fs few declares all in
      (done.0, (law, ap (λ (r : Result Front LoadFault). r >>= λ f. Ok f.listed) done.1), done.2)
  table_so true t l c ts fs few read all =
      let done = read_so z last c t 512 positions.RunTerm 0 (length c) [] true l ts fs few refl read all in
      (done.0, (front t [] true (record { entries = fs; uses = done.0 }), done.1, refl), done.2)

  tables_so : (t : ℕ) (l : Listed) (cs : List (List ℕ)) (trees : List Trees) (fs : List Entry) → length (methods_of fs) ≤ most_methods
      → TablesLoad any z last t l.entries cs trees fs → Agree z last l.uses
      → (us : List Use) × ReadTables any t l cs trees (record { entries = fs; uses = us }) × Agree z last us
  tables_so t l [] [] fs few same all = (l.uses, ap (λ es. with_entries l es) same, all)
  tables_so t l [] (ts ∷ rest) fs few h all = absurd h
  tables_so t l (c ∷ cs) [] fs few h all = absurd h
  tables_so t l (c ∷ cs) (ts ∷ rest) fs few (gs, one, behind) all =
      let here = table_so any t l c ts gs (omega (arith, few, tables_fewer (suc t) gs cs rest fs behind)) one all in
      let there = tables_so (suc t) (record { entries = gs; uses = here.0 }) cs rest fs few behind here.2 in
      (there.0, (record { entries = gs; uses = here.0 }, here.1, there.1), there.2)

module _ (any z : Bool) (gs : Givens) (cs : List (List ℕ)) (trees : List Trees) where
  pub loads_is : (m : Listed) → ListsTo any z gs cs trees m → LoadsTo any z gs cs trees m.entries
  loads_is m h = record {
    read = (tables_are any z m.entries 0 (first_listed gs) cs trees m h.read h.agreed).0;
    few = (lists_in_text_order any z gs cs trees m h).1;
  }

  pub loads_so : (es : List Entry) → LoadsTo any z gs cs trees es
      → (us : List Use) × ListsTo any z gs cs trees (record { entries = es; uses = us })
  loads_so es h =
      let done = tables_so any z es 0 (first_listed gs) cs trees es h.few h.read (All-nil (AgreesOne z es)) in
      (done.0, record { read = done.1; agreed = done.2 })
