-- The methods of tables stand in the order of the text, each once, and there aren't too many. Where the code outside
-- methods may run, a term's own body is that of a method, and loading goes into all terms in which one can stand.
use Rattle.std.proofs.Common.{◌≡◌, ℕ, zero, suc, Bool, true, false, not, cond, List, [], ◌∷◌, ◌++◌, length, map, Option}
use Rattle.std.proofs.Common.{Some, None, Result, Ok, Err, refl, sym, ap, subst, ◌∙◌, ◌≤◌, arith, nat_le, ◌-◌, ◌+◌, ◌⊎◌, inl, inr}
use Rattle.std.specs.Prelude.{IfOk}
use Rattle.std.specs.FinSet as set
use Rattle.std.specs.Option.{option_map, unwrap_or}
use Rattle.aml_names.specs.Paths.{PathSet}
use Rattle.aml_code.specs.declared.packages.PkgWidth.{PkgWidth}
use Rattle.aml_code.specs.declared.rows.Position.{Position}
use Rattle.aml_code.specs.declared.rows.Position.TheVariants as positions
use Rattle.aml_code.specs.declared.rows.Role.{Role}
use Rattle.aml_code.specs.declared.rows.Role.TheVariants as roles
use Rattle.aml_code.specs.declared.rows.TailKind.{TailKind}
use Rattle.aml_code.specs.declared.rows.TailKind.TheVariants as tails
use Rattle.aml_code.specs.Opcodes.{Row, rows, row_of}
use Rattle.aml_code.specs.Tree.{Tree, nothing, named, op, Trees, no_trees, tree_more, Parts, Tail, empty, terms, bytes}
use Rattle.aml_code.specs.Tree.{elements, fields, body}
use Rattle.aml_code.specs.Lawful.{field_names, last_label, Setting, setting_of, IsLawful, AreTerms, IsTail, ReadsModule}
use Rattle.aml_code.specs.Lawful.{ReadsStep, after, next_position, terms_in, tail_in, no_arguments}
use Rattle.aml_code.proofs.RowFacts.{rows_say}
use Rattle.aml_code.proofs.Takers.{taker_takes}
use Rattle.aml_parse.specs.Reading.{takes_names}
use Rattle.std.proofs.lemmas.List.{append-nil}
use Rattle.aml_parse.specs.Running.{has_terms, is_block, ReadsTerms, Opens}
use Rattle.aml_parse.proofs.Forward.{is_run, runs_on}
use Rattle.aml_namespace.specs.Namespace.{Givens, external}
use Rattle.aml_load.specs.declared.faults.LoadFault.{LoadFault}
use Rattle.aml_load.specs.Declaring.{◌>>=◌, Listed, first_listed, byte_of, body_span, first_label, most_methods}
use Rattle.aml_load.specs.Declaring.{place_at, lead_at, entry_at, method_at, alias_at, external_at, units_at}
use Rattle.aml_load.specs.Loading.{role_of, kind_of, methods_of, plain_entry}
use Rattle.aml_load.specs.Spans.{Span, tree_spans, all_spans, parts_spans, tail_spans, tables_spans, method_span, InTextOrder}
use Rattle.aml_load.specs.Running.{Front, table_front, asked, opened_at, object_at, scope_at, flat_at, enter_as, entered_at}
use Rattle.aml_load.specs.Running.{behind_tree, behind_inside, behind_trees, behind_table, run_names}
use Rattle.aml_load.specs.Tables.{ReadsOne, ReadTables, ListsTo}
use Rattle.aml_load.proofs.Givens.{no_methods}
use Rattle.aml_load.proofs.NoSpans.{terms_tail, parts_none, all_none, tail_none}
use Rattle.aml_load.proofs.SpanLaws.{role_is, inside_in_table, kept_in_table, next_in_table, one_span, Adds, nothing_more}
use Rattle.aml_load.proofs.SpanLaws.{then_adds, plain_adds, method_adds, GivesMore, unless_adds, after_adds, entry_adds}
use Rattle.aml_load.proofs.SpanLaws.{new_adds, units_add}

-- ---- what the rows say of terms of such tables

is_method : Role → Bool
is_method roles.Method = true
is_method _ = false

has_body : Option TailKind → Bool
has_body (Some tails.Body) = true
has_body _ = false

-- a method has a body, and no other term has one
fits : Role → Option TailKind → Bool
fits roles.Method k = has_body k
fits _ k = not (has_body k)

row_fits : (o : ℕ) (r : Row) → row_of o ≡ Some r → fits r.role r.tail ≡ true
unfolding rows fits has_body
row_fits o r listed = rows_say (λ r. true) (λ r. fits r.role r.tail) refl o r listed refl

-- ---- what a term adds, by its role

abbrev own_spans : Role → ℕ → Tail → List Span
own_spans r t x = cond (is_method r) (one_span t x) []

-- what a step gives adds these spans, in the same table
abbrev Enters : Result Front LoadFault → Front → List Span → Type 0
Enters r f spans = IfOk r (λ g. Adds f.listed.entries g.listed.entries spans × (g.site.table ≡ f.site.table))

then_enters : {A : Type 0} (r : Result A LoadFault) (k : A → Result Front LoadFault) (f : Front) (spans : List Span)
    → ((x : A) → r ≡ Ok x → Enters (k x) f spans)
    → Enters (r >>= k) f spans
then_enters (Ok x) k f spans h = h x refl
then_enters (Err e) k f spans h = tt

more_of : (r : Result Listed LoadFault) (l m : Listed) (spans : List Span) → GivesMore r l spans → r ≡ Ok m
    → Adds l.entries m.entries spans
more_of (Ok k) l m spans h e = let same : k ≡ m = cc in subst (λ (j : Listed). Adds l.entries j.entries spans) same h
more_of (Err d) l m spans h e = absurd cc

enter_adds : (r : Role) (f : Front) (ps : Parts) (x : Tail) → Enters (enter_as r f ps x) f (own_spans r f.site.table x)
unfolding enter_as object_at scope_at flat_at method_at alias_at external_at is_method
enter_adds (roles.Declares o) f ps x = then_enters (place_at f.site (last_label None ps)) _ f [] (λ p _.
    let e = plain_entry f.site f.listed.entries (kind_of o) p in
    then_enters (entry_at f.site f.listed p e) _ f [] (λ m is.
    (more_of _ f.listed m [] (entry_adds f.site f.listed p e [] (plain_adds f.listed.entries e refl)) is, refl)))
enter_adds roles.Scope f ps x =
    then_enters (opened_at f.site f.listed.entries (last_label None ps)) _ f [] (λ p _. (nothing_more f.listed.entries, refl))
enter_adds roles.Guard f ps x = (nothing_more f.listed.entries, refl)
enter_adds roles.Other f ps x = (nothing_more f.listed.entries, refl)
enter_adds roles.Method f ps x =
    let all = unless_adds (nat_le most_methods (length (methods_of f.listed.entries))) _ _ f.listed (one_span f.site.table x) (λ room.
    new_adds f.site f.listed (last_label None ps) _ (one_span f.site.table x) (λ p. method_adds f.site f.listed.entries p (byte_of ps) x room)) in
    then_enters (method_at f.site f.listed (last_label None ps) (byte_of ps) (body_span x)) _ f _ (λ m is.
    (more_of _ f.listed m (one_span f.site.table x) all is, refl))
enter_adds roles.Alias f ps x =
    let all = after_adds (lead_at f.site f.listed.entries (first_label ps) _) _ f.listed [] (λ q.
    new_adds f.site f.listed (last_label None ps) _ [] (λ p. plain_adds f.listed.entries _ refl)) in
    then_enters (alias_at f.site f.listed (first_label ps) (last_label None ps)) _ f [] (λ m is. (more_of _ f.listed m [] all is, refl))
enter_adds roles.External f ps x =
    let all = after_adds (place_at f.site (last_label None ps)) _ f.listed [] (λ p. plain_adds f.listed.entries (external p (byte_of ps)) refl) in
    then_enters (external_at f.site f.listed (last_label None ps) (byte_of ps)) _ f [] (λ m is. (more_of _ f.listed m [] all is, refl))
enter_adds roles.Fields f ps x =
    then_enters (units_at f.site f.listed (field_names x)) _ f [] (λ m is. (more_of _ f.listed m [] (units_add f.site f.listed (field_names x)) is, refl))

-- ---- a term's own body is that of a method

kept : (p : Position) (k : Option TailKind) → is_run p ≡ true → has_terms k ≡ false → option_map (tail_in p) k ≡ k
kept p None i h = refl
kept p (Some tails.Terms) i h = absurd cc
kept positions.RunTerm (Some k) i h = refl
kept positions.RunAfterIf (Some k) i h = refl
kept _ (Some k) i h = absurd cc

block_is : (o : ℕ) (w : Option PkgWidth) (ps : Parts) (x : Tail) (r : Row) → row_of o ≡ Some r
    → is_block (op o w ps x) ≡ has_terms r.tail
block_is o w ps x r listed = ap (λ (f : Option Row). unwrap_or (option_map (λ (r : Row). has_terms r.tail) f) false) listed

-- no block is a method
no_method : (r : Role) (k : Option TailKind) → fits r k ≡ true → has_terms k ≡ true → is_method r ≡ false
unfolding fits has_body is_method
no_method roles.Method (Some tails.Terms) fit h = absurd cc
no_method roles.Method _ fit h = absurd cc
no_method _ k fit h = refl

module _ (s : Setting) (levels : ℕ) (q : Position) (ls : PathSet) (t : ℕ) where
  one_body : (k : Option TailKind) (x : Tail) → has_body k ≡ true → IsTail s (IsLawful s levels) q k ls x
      → tail_spans t x ≡ one_span t x
  unfolding has_body
  one_body (Some tails.Body) (body start len) h l = refl
  one_body (Some tails.Body) _ h l = absurd l
  one_body _ x h l = absurd cc

  no_body : (k : Option TailKind) (x : Tail) → not (has_body k) ≡ true → has_terms k ≡ false
      → IsTail s (IsLawful s levels) q k ls x → tail_spans t x ≡ []
  unfolding has_body
  no_body (Some tails.Body) x h b l = absurd cc
  no_body (Some tails.Terms) x h b l = absurd cc
  no_body k x h b l = tail_none s t levels q k ls x (λ e. absurd (cc (e, b))) (λ e. absurd (cc (e, h))) l

  own_tail : (r : Role) (k : Option TailKind) (x : Tail) → fits r k ≡ true → has_terms k ≡ false
      → IsTail s (IsLawful s levels) q k ls x
      → tail_spans t x ≡ own_spans r t x
  unfolding fits is_method
  own_tail roles.Method k x fit b l = one_body k x fit l
  own_tail _ k x fit b l = no_body k x fit b l

-- ---- terms add the spans of their bodies

module _ (t : ℕ) (code : List ℕ) where
  abbrev setting : Front → Setting
  setting f = setting_of ((run_names t).arity f) None code

  abbrev AddsTo : Front → Front → List Span → Type 0
  AddsTo f g spans = Adds f.listed.entries g.listed.entries spans

  entered_adds : (f inner : Front) (o : ℕ) (w : Option PkgWidth) (ps : Parts) (x : Tail)
      → entered_at f (op o w ps x) ≡ Ok inner
      → AddsTo f inner (own_spans (role_of o) f.site.table x) × (inner.site.table ≡ f.site.table)
  unfolding entered_at
  entered_adds f inner o w ps x is = subst (λ r. Enters r f (own_spans (role_of o) f.site.table x)) is (enter_adds (role_of o) (asked f (op o w ps x)) ps x)

  abbrev the_front : Front → Result Front LoadFault
  the_front g = Ok g

  passed : (f inner : Front) (x : Tree) → the_front (cond f.site.any_run (asked f x) f) ≡ Ok inner → AddsTo f inner []
  passed f inner x is =
      let same : cond f.site.any_run (asked f x) f ≡ inner = cc in
      subst (λ (g : Front). AddsTo f g []) same (by f.site.any_run)
    where
      by : (any : Bool) → AddsTo f (cond any (asked f x) f) []
      by true = nothing_more f.listed.entries
      by false = nothing_more f.listed.entries

  same_spans : (f g : Front) (xs ys : List Span) → ys ≡ xs → AddsTo f g xs → AddsTo f g ys
  same_spans f g xs ys e = subst (λ zs. AddsTo f g zs) (sym e)

  mutual
    unfolding entered_at

    terms_add : (levels : ℕ) (p : Position) (at end : ℕ) (f : Front) (ts : Trees) (g : Front) → is_run p ≡ true
        → ReadsTerms (run_names t) code levels p at end f ts g → AddsTo f g (all_spans f.site.table ts)
    terms_add levels p at end f no_trees g run h = subst (λ (k : Front). AddsTo f k []) h.1 (nothing_more f.listed.entries)
    terms_add levels p at end f (tree_more x ts) g run (head, behind, inner, ended, reads, is, opens, rest) =
        let table = f.site.table in
        then_adds f.listed.entries ended.listed.entries g.listed.entries (tree_spans table x) (all_spans table ts)
        (term_adds levels p f inner ended head x at end behind run reads is opens)
        (terms_add levels (next_position p head) behind end (record f { listed = ended.listed }) ts g (runs_on p head run) rest)

    term_adds : (levels : ℕ) (p : Position) (f inner ended : Front) (head x : Tree) (at end behind : ℕ)
        → is_run p ≡ true
        → ReadsStep ((run_names t).arity f) levels p code at end head behind → entered_at f head ≡ Ok inner
        → Opens (run_names t) code levels head inner x ended → AddsTo f ended (tree_spans f.site.table x)
    term_adds zero p f inner ended head x at end behind run reads is opens = absurd reads.lawful
    term_adds (suc levels) p f inner ended head (op o w ps (terms ts)) at end behind run reads is (start, len, same, block, read) =
        let table = f.site.table in
        let law = subst (IsLawful (setting f) (suc levels) p set.empty) same reads.lawful in
        let add = entered_adds f inner o w ps (body start len) (ap (entered_at f) (sym same) ∙ is) in
        let none = no_method (law.row).role (law.row).tail (row_fits o law.row law.listed)
        (sym (block_is o w ps (body start len) law.row law.listed) ∙ ap is_block (sym same) ∙ block) in
        let own : own_spans (role_of o) table (body start len) ≡ [] =
        ap (λ (b : Bool). cond b (one_span table (body start len)) []) (ap is_method (role_is o law.row law.listed) ∙ none) in
        let all = subst (λ (n : ℕ). AddsTo inner ended (all_spans n ts)) add.1
        (terms_add (suc levels - 1) positions.RunTerm start (start + len) inner ts ended refl read) in
        same_spans f ended (all_spans table ts) (parts_spans table ps ++ all_spans table ts)
        (ap (λ zs. zs ++ all_spans table ts) (parts_none (setting f) table levels (law.row).parts set.empty ps law.parts))
        (then_adds f.listed.entries inner.listed.entries ended.listed.entries [] (all_spans table ts) (same_spans f inner _ [] (sym own) add.0) all)
    term_adds (suc levels) p f inner ended head nothing at end behind run reads is h =
        subst (λ (k : Front). AddsTo f k []) h.2 (passed f inner nothing (ap (entered_at f) (sym h.0) ∙ is))
    term_adds (suc levels) p f inner ended head (named n xs) at end behind run reads is h =
        let law = subst (IsLawful (setting f) (suc levels) p set.empty) h.0 reads.lawful in
        same_spans f ended [] (all_spans f.site.table xs) (all_none (setting f) f.site.table levels positions.Argument set.empty xs refl law.3)
        (subst (λ (k : Front). AddsTo f k []) h.2 (passed f inner (named n xs) (ap (entered_at f) (sym h.0) ∙ is)))
    term_adds (suc levels) p f inner ended head (op o w ps x) at end behind run reads is h =
        let table = f.site.table in
        let law = subst (IsLawful (setting f) (suc levels) p set.empty) h.0 reads.lawful in
        let flat : has_terms (law.row).tail ≡ false = sym (block_is o w ps x law.row law.listed) ∙ ap is_block (sym h.0) ∙ h.1 in
        let q = terms_in p (law.row).place in
        let tail =
        subst (λ (k : Option TailKind). IsTail (setting f) (IsLawful (setting f) levels) q k set.empty x) (kept p (law.row).tail run flat) law.tail in
        let own : tail_spans table x ≡ own_spans (role_of o) table x =
        own_tail (setting f) levels q set.empty table (law.row).role (law.row).tail x (row_fits o law.row law.listed) flat tail
        ∙ ap (λ (r : Role). own_spans r table x) (sym (role_is o law.row law.listed)) in
        let add = entered_adds f inner o w ps x (ap (entered_at f) (sym h.0) ∙ is) in
        same_spans f ended (own_spans (role_of o) table x) (parts_spans table ps ++ tail_spans table x)
        (ap (λ zs. zs ++ tail_spans table x) (parts_none (setting f) table levels (law.row).parts set.empty ps law.parts) ∙ own)
        (subst (λ (k : Front). AddsTo f k (own_spans (role_of o) table x)) h.2 add.0)

-- ---- the terms of a table that is read whole

-- one step behind another
more_enters : (r : Result Front LoadFault) (k : Front → Result Front LoadFault) (f : Front) (xs ys : List Span) → Enters r f xs
    → ((g : Front) → g.site.table ≡ f.site.table → Enters (k g) g ys) → Enters (r >>= k) f (xs ++ ys)
more_enters (Ok g) k f xs ys one two = by (k g) (two g one.1)
  where
    by : (r : Result Front LoadFault) → Enters r g ys → Enters r f (xs ++ ys)
    by (Ok h) more = (then_adds f.listed.entries g.listed.entries h.listed.entries xs ys one.0 more.0, more.1 ∙ one.1)
    by (Err e) more = tt
more_enters (Err e) k f xs ys one two = tt

-- behind the terms inside a term
put_back : (r : Result Front LoadFault) (f inner : Front) (ys : List Span) → inner.site.table ≡ f.site.table → Enters r inner ys
    → Enters (r >>= λ e. Ok (record f { listed = e.listed })) inner ys
put_back (Ok e) f inner ys same h = (h.0, sym same)
put_back (Err d) f inner ys same h = tt

as_spans : (r : Result Front LoadFault) (f : Front) (xs ys : List Span) → ys ≡ xs → Enters r f xs → Enters r f ys
as_spans r f xs ys e = subst (λ zs. Enters r f zs) (sym e)

abbrev fine : Front → Result Front LoadFault
fine f = Ok f

-- a term without an opcode
nothing_entered : (any : Bool) (f : Front) (x : Tree) → Enters (fine (cond any (asked f x) f)) f []
nothing_entered true f x = (nothing_more f.listed.entries, refl)
nothing_entered false f x = (nothing_more f.listed.entries, refl)

-- the bodies in the terms inside a term
inner_spans : ℕ → Tail → List Span
inner_spans t (terms xs) = all_spans t xs
inner_spans t _ = []

is_terms_tail : (k : Option TailKind) → (has_terms k ≡ false) ⊎ (k ≡ Some tails.Terms)
is_terms_tail (Some tails.Terms) = inr refl
is_terms_tail (Some tails.Bytes) = inl refl
is_terms_tail (Some tails.Elements) = inl refl
is_terms_tail (Some tails.Fields) = inl refl
is_terms_tail (Some tails.Body) = inl refl
is_terms_tail None = inl refl

module _ (s : Setting) (t : ℕ) where
  -- a term's own body, and those in the terms inside it
  module _ (levels : ℕ) (q : Position) (ls : PathSet) (role : Role) (k : Option TailKind) (fit : fits role k ≡ true) where
    flat_spans : (r : Tail) → has_terms k ≡ false → IsTail s (IsLawful s levels) q k ls r → tail_spans t r ≡ own_spans role t r ++ []
    flat_spans r flat law = own_tail s levels q ls t role k r fit flat law ∙ sym (append-nil (own_spans role t r))

    whole_spans : (r : Tail) → (has_terms k ≡ false) ⊎ (k ≡ Some tails.Terms) → IsTail s (IsLawful s levels) q k ls r
        → tail_spans t r ≡ own_spans role t r ++ inner_spans t r
    unfolding inner_spans
    whole_spans (terms xs) sort law =
        let is = (terms_tail s levels q ls k xs law).0 in
        let none = no_method role k fit (ap has_terms is) in
        sym (ap (λ (b : Bool). cond b (one_span t (terms xs)) [] ++ all_spans t xs) none)
    whole_spans empty (inr is) law = absurd (subst (λ (k : Option TailKind). IsTail s (IsLawful s levels) q k ls empty) is law)
    whole_spans (bytes xs) (inr is) law = absurd (subst (λ (k : Option TailKind). IsTail s (IsLawful s levels) q k ls (bytes xs)) is law)
    whole_spans (elements ts) (inr is) law =
        absurd (subst (λ (k : Option TailKind). IsTail s (IsLawful s levels) q k ls (elements ts)) is law)
    whole_spans (fields us) (inr is) law = absurd (subst (λ (k : Option TailKind). IsTail s (IsLawful s levels) q k ls (fields us)) is law)
    whole_spans (body start len) (inr is) law =
        absurd (subst (λ (k : Option TailKind). IsTail s (IsLawful s levels) q k ls (body start len)) is law)
    whole_spans empty (inl flat) law = flat_spans empty flat law
    whole_spans (bytes xs) (inl flat) law = flat_spans (bytes xs) flat law
    whole_spans (elements ts) (inl flat) law = flat_spans (elements ts) flat law
    whole_spans (fields us) (inl flat) law = flat_spans (fields us) flat law
    whole_spans (body start len) (inl flat) law = flat_spans (body start len) flat law

  mutual
    unfolding behind_tree behind_inside behind_trees entered_at inner_spans

    tree_adds : (levels : ℕ) (p : Position) (ls : PathSet) (f : Front) (x : Tree) → f.site.table ≡ t → takes_names p ≡ false
        → IsLawful s levels p ls x → Enters (behind_tree f x) f (tree_spans t x)
    tree_adds levels p ls f nothing at h law = nothing_entered f.site.any_run f nothing
    tree_adds zero p ls f _ at h law = absurd law
    tree_adds (suc levels) p ls f (named n xs) at h law =
        as_spans (fine (cond f.site.any_run (asked f (named n xs)) f)) f [] (all_spans t xs)
        (all_none s t levels positions.Argument ls xs refl law.3) (nothing_entered f.site.any_run f (named n xs))
    tree_adds (suc levels) p ls f (op o w ps r) at h law =
        let k = (law.row).tail in
        let q = terms_in p (law.row).place in
        let role = (law.row).role in
        let tail = subst (λ (k : Option TailKind). IsTail s (IsLawful s levels) q k ls r) (kept_in_table p k h) law.tail in
        let free = inside_in_table p o law.row h law.listed (taker_takes p (law.row).place law.taken) in
        let own = subst (λ (n : ℕ). Enters (enter_as (role_of o) (asked f (op o w ps r)) ps r) f (own_spans (role_of o) n r)) at
        (enter_adds (role_of o) (asked f (op o w ps r)) ps r) in
        let spans = whole_spans levels q ls role k (row_fits o law.row law.listed) r (is_terms_tail k) tail
        ∙ ap (λ (x : Role). own_spans x t r ++ inner_spans t r) (sym (role_is o law.row law.listed)) in
        as_spans (behind_tree f (op o w ps r)) f (own_spans (role_of o) t r ++ inner_spans t r) (parts_spans t ps ++ tail_spans t r)
        (ap (λ zs. zs ++ tail_spans t r) (parts_none s t levels (law.row).parts ls ps law.parts) ∙ spans)
        (more_enters (enter_as (role_of o) (asked f (op o w ps r)) ps r)
        (λ i. behind_inside i r >>= λ e. Ok (record f { listed = e.listed })) f (own_spans (role_of o) t r) (inner_spans t r) own (λ i same.
        put_back (behind_inside i r) f i (inner_spans t r) same (inside_adds levels q k ls i r (same ∙ at) free tail)))

    inside_adds : (levels : ℕ) (p : Position) (k : Option TailKind) (ls : PathSet) (f : Front) (r : Tail) → f.site.table ≡ t
        → (k ≡ Some tails.Terms → takes_names p ≡ false) → IsTail s (IsLawful s levels) p k ls r
        → Enters (behind_inside f r) f (inner_spans t r)
    inside_adds levels p k ls f (terms xs) at h law = let e = terms_tail s levels p ls k xs law in all_add levels p ls f xs at (h e.0) e.1
    inside_adds levels p k ls f empty at h law = (nothing_more f.listed.entries, refl)
    inside_adds levels p k ls f (bytes xs) at h law = (nothing_more f.listed.entries, refl)
    inside_adds levels p k ls f (elements xs) at h law = (nothing_more f.listed.entries, refl)
    inside_adds levels p k ls f (fields us) at h law = (nothing_more f.listed.entries, refl)
    inside_adds levels p k ls f (body start len) at h law = (nothing_more f.listed.entries, refl)

    all_add : (levels : ℕ) (p : Position) (ls : PathSet) (f : Front) (xs : Trees) → f.site.table ≡ t → takes_names p ≡ false
        → AreTerms s levels p ls xs → Enters (behind_trees f xs) f (all_spans t xs)
    all_add levels p ls f no_trees at h law = (nothing_more f.listed.entries, refl)
    all_add levels p ls f (tree_more x xs) at h law =
        more_enters (behind_tree f x) _ f (tree_spans t x) (all_spans t xs) (tree_adds levels p ls f x at h law.0)
        (λ g same. all_add levels (next_position p x) (after s.scope ls x) g xs (same ∙ at) (next_in_table p x h) law.1)

module_adds : (t : ℕ) (l : Listed) (code : List ℕ) (xs : Trees) (m : Listed) → ReadsModule code xs
    → behind_table false t l xs ≡ Ok m → Adds l.entries m.entries (all_spans t xs)
module_adds t l code xs m law is = by (behind_trees (table_front false t l) xs) is
    (all_add (setting_of no_arguments None code) t 512 positions.ModuleTerm set.empty (table_front false t l) xs refl refl law.lawful)
  where
    by : (r : Result Front LoadFault) → (r >>= λ f. Ok f.listed) ≡ Ok m → Enters r (table_front false t l) (all_spans t xs)
        → Adds l.entries m.entries (all_spans t xs)
    by (Ok f) is adds = let same : f.listed ≡ m = cc in subst (λ (k : Listed). Adds l.entries k.entries (all_spans t xs)) same adds.0
    by (Err e) is adds = absurd cc

-- ---- the tables, and the whole load

table_adds : (any : Bool) (t : ℕ) (l : Listed) (code : List ℕ) (xs : Trees) (m : Listed) → ReadsOne any t l code xs m
    → Adds l.entries m.entries (all_spans t xs)
table_adds false t l code xs m (law, is) = module_adds t l code xs m law is
table_adds true t l code xs m (k, reads, same) =
    subst (λ (n : Listed). Adds l.entries n.entries (all_spans t xs)) same
    (terms_add t code 512 positions.RunTerm 0 (length code) (table_front true t l) xs k refl reads)

tables_add : (any : Bool) (t : ℕ) (l : Listed) (codes : List (List ℕ)) (trees : List Trees) (m : Listed)
    → ReadTables any t l codes trees m
    → Adds l.entries m.entries (tables_spans t trees)
tables_add any t l [] [] m read = subst (λ (k : Listed). Adds l.entries k.entries []) read (nothing_more l.entries)
tables_add any t l (c ∷ codes) [] m read = absurd read
tables_add any t l [] (xs ∷ trees) m read = absurd read
tables_add any t l (c ∷ codes) (xs ∷ trees) m (k, reads, read) =
    then_adds l.entries k.entries m.entries (all_spans t xs) (tables_spans (suc t) trees) (table_adds any t l c xs k reads)
    (tables_add any (suc t) k codes trees m read)

-- The methods of what is listed are those whose bodies stand in the trees, in load order and in the order of the text,
-- and there aren't too many.
pub lists_in_text_order : (any z : Bool) (gs : Givens) (tables : List (List ℕ)) (trees : List Trees) (m : Listed)
    → ListsTo any z gs tables trees m
    → InTextOrder trees m.entries × (length (methods_of m.entries) ≤ most_methods)
lists_in_text_order any z gs tables trees m h =
    let all = tables_add any 0 (first_listed gs) tables trees m h.read in (
      all.grow ∙ ap (λ ms. map method_span ms ++ tables_spans 0 trees) (no_methods gs),
      all.few (subst (λ ms. length ms ≤ most_methods) (sym (no_methods gs)) (omega arith)),
    )
