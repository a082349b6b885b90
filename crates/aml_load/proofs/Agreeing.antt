-- The names in a term that stand outside the terms inside it take as many arguments in the end as were read with them
-- where the term, without the terms inside it, is lawful by these counts too, and the other way round.
use Rattle.std.specs.List.{All}
use Rattle.std.specs.FinSet as set
use Rattle.std.proofs.Common.{◌≡◌, ◌≤◌, ℕ, zero, suc, ◌+◌, ◌-◌, Bool, true, false, not, ◌||◌, cond, List, [], ◌∷◌, ◌++◌, length, Option}
use Rattle.std.proofs.Common.{Some, None, refl, sym, ap, subst, arith}
use Rattle.std.specs.Option.{option_map, unwrap_or}
use Rattle.std.proofs.lemmas.List.{length-append}
use Rattle.std.proofs.lemmas.List.Elements.{All-nil, All-cons, All-head, All-tail, All-append}
use Rattle.aml_names.specs.declared.names.Name.{Name}
use Rattle.aml_code.specs.declared.packages.PkgWidth.{PkgWidth}
use Rattle.aml_code.specs.declared.packages.PkgWidth.TheVariants as width
use Rattle.aml_code.specs.declared.rows.PartKind.{PartKind}
use Rattle.aml_code.specs.declared.rows.PartKind.TheVariants as part_kinds
use Rattle.aml_code.specs.declared.rows.Place.{Place}
use Rattle.aml_code.specs.declared.rows.Place.TheVariants as places
use Rattle.aml_code.specs.declared.rows.Position.{Position}
use Rattle.aml_code.specs.declared.rows.Position.TheVariants as positions
use Rattle.aml_code.specs.declared.rows.TailKind.{TailKind}
use Rattle.aml_code.specs.declared.rows.TailKind.TheVariants as tails
use Rattle.aml_code.specs.Faults.{Arities}
use Rattle.aml_code.specs.Lawful.{Setting, setting_of, count_in, IsLawful, IsOperation, TermsStand, IsTail, IsPart, AreParts}
use Rattle.aml_code.specs.Lawful.{IsField, AreFields, HasWidth, next_position, terms_in, tail_in, after}
use Rattle.aml_code.specs.Opcodes.{Row, rows, row_of, takes}
use Rattle.aml_code.specs.Packages.{FitsWidth, width_len}
use Rattle.aml_code.specs.Tree.{Tree, nothing, named, op, Trees, no_trees, tree_more, Part, child, Parts, no_parts}
use Rattle.aml_code.specs.Tree.{part_more, Tail, terms, elements, fields, empty, Field, connection, Fields, no_fields}
use Rattle.aml_code.specs.Tree.{field_more, target, buffer, tree_count, parts_encoding, tail_encoding}
use Rattle.aml_code.proofs.InnerLaws.{is_inner, unchanged}
use Rattle.aml_code.proofs.LevelLaws.{deeper_by}
use Rattle.aml_code.proofs.RowFacts.{rows_say, not_true}
use Rattle.aml_code.proofs.Takers.{taker_takes, takes_taker}
use Rattle.aml_parse.specs.Reading.{takes_names}
use Rattle.aml_parse.proofs.Forward.{is_run}
use Rattle.aml_namespace.specs.Namespace.{Entry}
use Rattle.aml_namespace.specs.Runs.{outlook_of, agreed_arity}
use Rattle.aml_load.specs.Declaring.{Use, use_of, use_count, kinds_in, is_argument, uses_in, all_uses, parts_uses}
use Rattle.aml_load.specs.Declaring.{part_uses, tail_uses, fields_uses, field_uses, term_uses}
use Rattle.aml_load.specs.Loading.{Where, in_declaration, Agrees}

-- ---- the two parts of what holds of each

pub All-left : {X : Type 0} (P : X → Type 0) (xs ys : List X) → All P (xs ++ ys) → All P xs
All-left P [] ys h = All-nil P
All-left P (x ∷ xs) ys h = All-cons P x xs (All-head P x (xs ++ ys) h) (All-left P xs ys (All-tail P x (xs ++ ys) h))

pub All-right : {X : Type 0} (P : X → Type 0) (xs ys : List X) → All P (xs ++ ys) → All P ys
All-right P [] ys h = h
All-right P (x ∷ xs) ys h = All-right P xs ys (All-tail P x (xs ++ ys) h)

-- each of these names takes as many arguments in the end as were read with it
abbrev pub AgreesOne : Bool → List Entry → Use → Type 0
AgreesOne z es u = use_count z es u ≡ Some u.args

abbrev pub Agree : Bool → List Entry → List Use → Type 0
Agree z es us = All (AgreesOne z es) us

-- ---- what the rows say

is_terms : Option TailKind → Bool
is_terms (Some tails.Terms) = true
is_terms _ = false

-- what stands inside a term has no terms inside it
inner_flat : (p : Position) (o : ℕ) (r : Row) → is_inner p ≡ true → row_of o ≡ Some r → takes p r.place ≡ true
    → option_map (tail_in p) r.tail ≡ Some tails.Terms → ⊥
unfolding rows is_terms
inner_flat positions.Argument o r i listed taken e =
    let other = rows_say (λ r. takes positions.Argument r.place) (λ r. not (is_terms (option_map (tail_in positions.Argument) r.tail))) refl o r listed taken in
    absurd (cc (not_true _ other, ap is_terms e))
inner_flat positions.Target o r i listed taken e =
    let other = rows_say (λ r. takes positions.Target r.place) (λ r. not (is_terms (option_map (tail_in positions.Target) r.tail))) refl o r listed taken in
    absurd (cc (not_true _ other, ap is_terms e))
inner_flat positions.Data o r i listed taken e =
    let other = rows_say (λ r. takes positions.Data r.place) (λ r. not (is_terms (option_map (tail_in positions.Data) r.tail))) refl o r listed taken in
    absurd (cc (not_true _ other, ap is_terms e))
inner_flat _ o r i listed taken e = absurd cc

-- the next position inside a term is the same
stays : (p : Position) (t : Tree) → is_inner p ≡ true → next_position p t ≡ p
stays positions.Argument t i = refl
stays positions.Target t i = refl
stays positions.Data t i = refl
stays _ t i = absurd cc

kinds_are : (o : ℕ) (r : Row) → row_of o ≡ Some r → kinds_in o ≡ r.parts
kinds_are o r listed = ap (λ (f : Option Row). unwrap_or (option_map (λ (r : Row). r.parts) f) []) listed

-- whether a name in a position takes arguments
abbrev pub asks : Position → Bool
asks positions.Target = false
asks positions.Data = false
asks _ = true

module _ (code : List ℕ) (z : Bool) (es : List Entry) (site : Where) (d : Bool) where
  abbrev ask : Name → ℕ → Use
  ask = use_of site d

  abbrev pub told : Setting
  told = setting_of (agreed_arity (outlook_of es) (z || d) site.scope) None code

  -- the terms behind one, where those inside a term stand
  behind : (s : Setting) (levels : ℕ) (p : Position) (t : Tree) (ts : Trees) → is_inner p ≡ true
      → IsLawful s levels p set.empty t → TermsStand s (IsLawful s levels) (next_position p t) (after s.scope set.empty t) ts
      → TermsStand s (IsLawful s levels) p set.empty ts
  behind s levels p t ts i one rest =
      subst (λ ls. TermsStand s (IsLawful s levels) p ls ts) (unchanged s levels p set.empty t i one)
      (subst (λ (q : Position). TermsStand s (IsLawful s levels) q (after s.scope set.empty t) ts) (stays p t i) rest)

  -- ---- what is lawful by the counts agrees

  named_told : (p : Position) (n : Name) (k : ℕ) (us : List Use) → count_in told.arity p set.empty n ≡ Some k → Agree z es us
      → Agree z es (cond (asks p) (ask n k ∷ []) [] ++ us)
  named_told positions.ModuleTerm n k us is rest = absurd cc
  named_told positions.GuardTerm n k us is rest = absurd cc
  named_told positions.Target n k us is rest = rest
  named_told positions.Data n k us is rest = rest
  named_told _ n k us is rest = All-cons (AgreesOne z es) (ask n k) us is rest

  mutual
    pub tree_told : (levels : ℕ) (p : Position) (x : Tree) → IsLawful told levels p set.empty x
        → Agree z es (uses_in ask (asks p) x)
    tree_told zero p x law = absurd law
    tree_told (suc levels) p nothing law = All-nil (AgreesOne z es)
    tree_told (suc levels) p (named n ts) law =
        named_told p n (tree_count ts) (all_uses ask true ts) law.2 (all_told levels positions.Argument ts refl law.3)
    tree_told (suc levels) p (op o w ps r) law =
        All-append (AgreesOne z es) (parts_uses ask (kinds_in o) ps) (tail_uses ask r)
        (subst (λ ks. Agree z es (parts_uses ask ks ps)) (sym (kinds_are o law.row law.listed)) (parts_told levels (law.row).parts ps law.parts))
        (tail_told levels _ _ r law.tail)

    all_told : (levels : ℕ) (p : Position) (ts : Trees) → is_inner p ≡ true
        → TermsStand told (IsLawful told levels) p set.empty ts → Agree z es (all_uses ask (asks p) ts)
    all_told levels p no_trees i law = All-nil (AgreesOne z es)
    all_told levels p (tree_more t ts) i law =
        All-append (AgreesOne z es) (uses_in ask (asks p) t) (all_uses ask (asks p) ts) (tree_told levels p t law.0)
        (all_told levels p ts i (behind told levels p t ts i law.0 law.1))

    part_told : (levels : ℕ) (k : PartKind) (x : Part) → IsPart (λ q. IsLawful told levels q set.empty) k x
        → Agree z es (part_uses ask (is_argument k) x)
    part_told levels part_kinds.Term (child t) law = tree_told levels positions.Argument t law
    part_told levels part_kinds.Target (child t) law = tree_told levels positions.Target t law
    part_told levels part_kinds.Data (child t) law = tree_told levels positions.Data t law
    part_told levels _ (child t) law = absurd law
    part_told levels k _ law = All-nil (AgreesOne z es)

    parts_told : (levels : ℕ) (ks : List PartKind) (ps : Parts) → AreParts (λ q. IsLawful told levels q set.empty) ks ps
        → Agree z es (parts_uses ask ks ps)
    parts_told levels [] ps law = All-nil (AgreesOne z es)
    parts_told levels (k ∷ ks) no_parts law = absurd law
    parts_told levels (k ∷ ks) (part_more p ps) law =
        All-append (AgreesOne z es) (part_uses ask (is_argument k) p) (parts_uses ask ks ps) (part_told levels k p law.0) (parts_told levels ks ps law.1)

    tail_told : (levels : ℕ) (q : Position) (k : Option TailKind) (r : Tail)
        → IsTail told (IsLawful told levels) q k set.empty r → Agree z es (tail_uses ask r)
    tail_told levels q (Some tails.Elements) (elements ts) law = all_told levels positions.Data ts refl law
    tail_told levels q _ (elements ts) law = absurd law
    tail_told levels q (Some tails.Fields) (fields us) law = fields_told levels us law
    tail_told levels q _ (fields us) law = absurd law
    tail_told levels q k _ law = All-nil (AgreesOne z es)

    fields_told : (levels : ℕ) (us : Fields) → AreFields (λ q. IsLawful told levels q set.empty) us
        → Agree z es (fields_uses ask us)
    fields_told levels no_fields law = All-nil (AgreesOne z es)
    fields_told levels (field_more u us) law =
        All-append (AgreesOne z es) (field_uses ask u) (fields_uses ask us) (field_told levels u law.0) (fields_told levels us law.1)

    field_told : (levels : ℕ) (u : Field) → IsField (λ q. IsLawful told levels q set.empty) u → Agree z es (field_uses ask u)
    field_told levels (connection (buffer t)) law = tree_told levels positions.Data t law.1
    field_told levels (connection (target n)) law = All-nil (AgreesOne z es)
    field_told levels _ law = All-nil (AgreesOne z es)

  -- ---- what was read and agrees is lawful by the counts

  module _ (a : Arities) where
    abbrev read : Setting
    read = setting_of a None code

    named_agrees : (p : Position) (n : Name) (k : ℕ) (us : List Use) → count_in a p set.empty n ≡ Some k
        → Agree z es (cond (asks p) (ask n k ∷ []) [] ++ us)
        → (count_in told.arity p set.empty n ≡ Some k) × Agree z es us
    named_agrees positions.ModuleTerm n k us is all = absurd cc
    named_agrees positions.GuardTerm n k us is all = absurd cc
    named_agrees positions.Target n k us is all = (is, all)
    named_agrees positions.Data n k us is all = (is, all)
    named_agrees _ n k us is all = (All-head (AgreesOne z es) (ask n k) us all, All-tail (AgreesOne z es) (ask n k) us all)

    -- that a term has no terms inside it
    abbrev pub IsFlat : Position → Tree → Type 0
    IsFlat p (op o w ps r) = (row : Row) → row_of o ≡ Some row → takes p row.place ≡ true → (ts : Trees)
        → r ≡ terms ts → option_map (tail_in p) row.tail ≡ Some tails.Terms → ts ≡ no_trees
    IsFlat p t = Unit {0}

    inner_is_flat : (p : Position) (t : Tree) → is_inner p ≡ true → IsFlat p t
    inner_is_flat p nothing i = tt
    inner_is_flat p (named n ts) i = tt
    inner_is_flat p (op o w ps r) i = λ row listed taken ts e k. absurd (inner_flat p o row i listed taken k)

    mutual
      pub tree_agrees : (levels : ℕ) (p : Position) (x : Tree) → IsFlat p x → IsLawful read levels p set.empty x
          → Agree z es (uses_in ask (asks p) x) → IsLawful told levels p set.empty x
      tree_agrees zero p x flat law all = absurd law
      tree_agrees (suc levels) p nothing flat law all = law
      tree_agrees (suc levels) p (named n ts) flat law all =
          let count = named_agrees p n (tree_count ts) (all_uses ask true ts) law.2 all in
          (law.0, law.1, count.0, all_agree levels positions.Argument ts refl law.3 count.1)
      tree_agrees (suc levels) p (op o w ps r) flat law all = record {
        row = law.row;
        listed = law.listed;
        taken = law.taken;
        width = law.width;
        guarded = law.guarded;
        parts = parts_agree levels (law.row).parts ps law.parts
            (subst (λ ks. Agree z es (parts_uses ask ks ps)) (kinds_are o law.row law.listed)
            (All-left (AgreesOne z es) (parts_uses ask (kinds_in o) ps) (tail_uses ask r) all));
        tail = tail_agrees levels _ _ r (flat law.row law.listed (taker_takes p (law.row).place law.taken)) law.tail
            (All-right (AgreesOne z es) (parts_uses ask (kinds_in o) ps) (tail_uses ask r) all);
      }

      all_agree : (levels : ℕ) (p : Position) (ts : Trees) → is_inner p ≡ true
          → TermsStand read (IsLawful read levels) p set.empty ts → Agree z es (all_uses ask (asks p) ts)
          → TermsStand told (IsLawful told levels) p set.empty ts
      all_agree levels p no_trees i law all = tt
      all_agree levels p (tree_more t ts) i law all = (
        tree_agrees levels p t (inner_is_flat p t i) law.0 (All-left (AgreesOne z es) (uses_in ask (asks p) t) (all_uses ask (asks p) ts) all),
        subst (λ ls. TermsStand told (IsLawful told levels) (next_position p t) ls ts) (sym (unchanged read levels p set.empty t i law.0))
            (subst (λ (q : Position). TermsStand told (IsLawful told levels) q set.empty ts) (sym (stays p t i))
            (all_agree levels p ts i (behind read levels p t ts i law.0 law.1)
            (All-right (AgreesOne z es) (uses_in ask (asks p) t) (all_uses ask (asks p) ts) all))),
      )

      part_agrees : (levels : ℕ) (k : PartKind) (x : Part) → IsPart (λ q. IsLawful read levels q set.empty) k x
          → Agree z es (part_uses ask (is_argument k) x) → IsPart (λ q. IsLawful told levels q set.empty) k x
      part_agrees levels part_kinds.Term (child t) law all = tree_agrees levels positions.Argument t (inner_is_flat positions.Argument t refl) law all
      part_agrees levels part_kinds.Target (child t) law all = tree_agrees levels positions.Target t (inner_is_flat positions.Target t refl) law all
      part_agrees levels part_kinds.Data (child t) law all = tree_agrees levels positions.Data t (inner_is_flat positions.Data t refl) law all
      part_agrees levels _ (child t) law all = absurd law
      part_agrees levels k _ law all = law

      parts_agree : (levels : ℕ) (ks : List PartKind) (ps : Parts)
          → AreParts (λ q. IsLawful read levels q set.empty) ks ps
          → Agree z es (parts_uses ask ks ps) → AreParts (λ q. IsLawful told levels q set.empty) ks ps
      parts_agree levels [] no_parts law all = tt
      parts_agree levels (k ∷ ks) (part_more p ps) law all = (
        part_agrees levels k p law.0 (All-left (AgreesOne z es) (part_uses ask (is_argument k) p) (parts_uses ask ks ps) all),
        parts_agree levels ks ps law.1 (All-right (AgreesOne z es) (part_uses ask (is_argument k) p) (parts_uses ask ks ps) all),
      )
      parts_agree levels _ _ law all = absurd law

      tail_agrees : (levels : ℕ) (q : Position) (k : Option TailKind) (r : Tail)
          → ((ts : Trees) → r ≡ terms ts → k ≡ Some tails.Terms → ts ≡ no_trees)
          → IsTail read (IsLawful read levels) q k set.empty r → Agree z es (tail_uses ask r)
          → IsTail told (IsLawful told levels) q k set.empty r
      tail_agrees levels q (Some tails.Terms) (terms ts) flat law all =
          subst (λ (us : Trees). TermsStand told (IsLawful told levels) q set.empty us) (sym (flat ts refl refl)) tt
      tail_agrees levels q _ (terms ts) flat law all = absurd law
      tail_agrees levels q (Some tails.Elements) (elements ts) flat law all = all_agree levels positions.Data ts refl law all
      tail_agrees levels q _ (elements ts) flat law all = absurd law
      tail_agrees levels q (Some tails.Fields) (fields us) flat law all = fields_agree levels us law all
      tail_agrees levels q _ (fields us) flat law all = absurd law
      tail_agrees levels q _ _ flat law all = law

      fields_agree : (levels : ℕ) (us : Fields) → AreFields (λ q. IsLawful read levels q set.empty) us
          → Agree z es (fields_uses ask us) → AreFields (λ q. IsLawful told levels q set.empty) us
      fields_agree levels no_fields law all = tt
      fields_agree levels (field_more u us) law all = (
        field_agrees levels u law.0 (All-left (AgreesOne z es) (field_uses ask u) (fields_uses ask us) all),
        fields_agree levels us law.1 (All-right (AgreesOne z es) (field_uses ask u) (fields_uses ask us) all),
      )

      field_agrees : (levels : ℕ) (u : Field) → IsField (λ q. IsLawful read levels q set.empty) u
          → Agree z es (field_uses ask u) → IsField (λ q. IsLawful told levels q set.empty) u
      field_agrees levels (connection (buffer t)) law all = (law.0, tree_agrees levels positions.Data t (inner_is_flat positions.Data t refl) law.1 all)
      field_agrees levels (connection (target n)) law all = law
      field_agrees levels _ law all = law

-- ---- a term of a table that is read whole, without the terms inside it

-- a tail without terms inside it
abbrev pub emptied : Tail → Tail
emptied (terms ts) = terms no_trees
emptied r = r

fits_less : (w : PkgWidth) (m n : ℕ) → n ≤ m → FitsWidth w m → FitsWidth w n
fits_less width.One m n less h = omega (arith, less, h)
fits_less width.Two m n less h = omega (arith, less, h)
fits_less width.Three m n less h = omega (arith, less, h)
fits_less width.Four m n less h = omega (arith, less, h)

width_less : (k : Option TailKind) (w : Option PkgWidth) (m n : ℕ) → n ≤ m → HasWidth k w m → HasWidth k w n
width_less None None m n less h = tt
width_less (Some k) (Some w) m n less h = fits_less w (width_len w + m) (width_len w + n) (omega (arith, less)) h
width_less None (Some w) m n less h = absurd h
width_less (Some k) None m n less h = absurd h

-- a term of a guard is an External, which is a term of a table too
module_takes : (p : Position) (place : Place) → takes_names p ≡ false → takes p place ≡ true
    → takes positions.ModuleTerm place ≡ true
module_takes positions.ModuleTerm place h taken = taken
module_takes positions.GuardTerm places.External h taken = refl
module_takes positions.GuardTerm _ h taken = absurd cc
module_takes _ place h taken = absurd cc

module _ (code : List ℕ) (a : Arities) where
  abbrev module_read : Setting
  module_read = setting_of a None code

  -- each tail is kept there
  same_tails : (p : Position) (k : Option TailKind) → takes_names p ≡ false
      → option_map (tail_in p) k ≡ option_map (tail_in positions.ModuleTerm) k
  same_tails p None h = refl
  same_tails positions.ModuleTerm (Some k) h = refl
  same_tails positions.GuardTerm (Some k) h = refl
  same_tails _ (Some k) h = absurd cc

  tail_emptied : (levels : ℕ) (p q : Position) (k : Option TailKind) (r : Tail)
      → IsTail module_read (IsLawful module_read levels) p k set.empty r
      → IsTail module_read (IsLawful module_read levels) q k set.empty (emptied r)
  tail_emptied levels p q (Some tails.Terms) (terms ts) law = tt
  tail_emptied levels p q _ (terms ts) law = absurd law
  tail_emptied levels p q k _ law = law

  no_guard : (p : Position) (place : Place) (ps : Parts) → takes_names p ≡ false → takes p place ≡ true
      → (terms_in p place ≡ positions.GuardTerm → ps ≡ part_more (child (op 0x00 None no_parts empty)) no_parts)
      → terms_in positions.ModuleTerm place ≡ positions.GuardTerm
      → ps ≡ part_more (child (op 0x00 None no_parts empty)) no_parts
  no_guard positions.ModuleTerm place ps h taken guarded = guarded
  no_guard positions.GuardTerm places.External ps h taken guarded = λ e. absurd cc
  no_guard positions.GuardTerm _ ps h taken guarded = absurd cc
  no_guard _ place ps h taken guarded = absurd cc

  size_less : (ps : Parts) (r : Tail) → length (parts_encoding code ps ++ tail_encoding code (emptied r))
      ≤ length (parts_encoding code ps ++ tail_encoding code r)
  size_less ps (terms ts) = omega (
    arith,
    length-append (parts_encoding code ps) (tail_encoding code (terms ts)),
    length-append (parts_encoding code ps) (tail_encoding code (terms no_trees)),
  )
  size_less ps _ = omega arith

  module_emptied : (levels : ℕ) (p : Position) (o : ℕ) (w : Option PkgWidth) (ps : Parts) (r : Tail) → takes_names p ≡ false
      → IsOperation module_read (IsLawful module_read levels) p set.empty o w ps r
      → IsOperation module_read (IsLawful module_read levels) positions.ModuleTerm set.empty o w ps (emptied r)
  module_emptied levels p o w ps r h law =
      let taken = taker_takes p (law.row).place law.taken in
      record {
        row = law.row;
        listed = law.listed;
        taken = takes_taker positions.ModuleTerm (law.row).place (module_takes p (law.row).place h taken);
        width = width_less (law.row).tail w _ _ (size_less ps r) law.width;
        guarded = no_guard p (law.row).place ps h taken law.guarded;
        parts = law.parts;
        tail = subst (λ k. IsTail module_read (IsLawful module_read levels) (terms_in positions.ModuleTerm (law.row).place) k set.empty (emptied r))
            (same_tails p (law.row).tail h) (tail_emptied levels (terms_in p (law.row).place) _ _ r law.tail);
      }

same_uses : (ask : Name → ℕ → Use) (r : Tail) → tail_uses ask (emptied r) ≡ tail_uses ask r
same_uses ask (terms ts) = refl
same_uses ask _ = refl

emptied_flat : (o : ℕ) (w : Option PkgWidth) (ps : Parts) (r : Tail) (ts : Trees) → emptied r ≡ terms ts → ts ≡ no_trees
emptied_flat o w ps (terms us) ts e = let same : no_trees ≡ ts = cc in sym same
emptied_flat o w ps _ ts e = absurd cc

module _ (code : List ℕ) (z : Bool) (es : List Entry) (site : Where) (o : ℕ) (w : Option PkgWidth) (ps : Parts) (r : Tail) where
  pub module_agrees : (a : Arities) (levels : ℕ) (p : Position) → levels ≤ 512 → takes_names p ≡ false
      → IsLawful (setting_of a None code) levels p set.empty (op o w ps r)
      → Agree z es (term_uses site (op o w ps r))
      → Agrees z es code positions.ModuleTerm site (op o w ps (emptied r))
  module_agrees a zero p less h law all = absurd law
  module_agrees a (suc levels) p less h law all =
      let d = in_declaration (op o w ps r) in
      deeper_by (told code z es site d) (512 - suc levels) (suc levels) 512 positions.ModuleTerm set.empty (op o w ps (emptied r)) (omega (arith, less))
      (tree_agrees code z es site d a (suc levels) positions.ModuleTerm (op o w ps (emptied r)) (λ row listed taken ts e k. emptied_flat o w ps r ts e)
      (module_emptied code a levels p o w ps r h law)
      (subst (λ us. Agree z es (parts_uses (use_of site d) (kinds_in o) ps ++ us)) (sym (same_uses (use_of site d) r)) all))

  pub module_told : Agrees z es code positions.ModuleTerm site (op o w ps (emptied r))
      → Agree z es (term_uses site (op o w ps r))
  module_told law =
      let d = in_declaration (op o w ps r) in
      subst (λ us. Agree z es (parts_uses (use_of site d) (kinds_in o) ps ++ us)) (same_uses (use_of site d) r)
      (tree_told code z es site d 512 positions.ModuleTerm (op o w ps (emptied r)) law)

-- ---- a term of a table that is read from the left, of which the terms inside it are a span

run_kind : (p : Position) (k : Option TailKind) → is_run p ≡ true → option_map (tail_in p) k ≡ Some tails.Terms → ⊥
run_kind positions.RunTerm (Some tails.Terms) run e = absurd cc
run_kind positions.RunAfterIf (Some tails.Terms) run e = absurd cc
run_kind positions.RunTerm None run e = absurd cc
run_kind positions.RunAfterIf None run e = absurd cc
run_kind positions.RunTerm (Some _) run e = absurd cc
run_kind positions.RunAfterIf (Some _) run e = absurd cc
run_kind _ k run e = absurd cc

run_asks : (p : Position) → is_run p ≡ true → asks p ≡ true
run_asks positions.RunTerm run = refl
run_asks positions.RunAfterIf run = refl
run_asks _ run = absurd cc

module _ (code : List ℕ) (z : Bool) (es : List Entry) (site : Where) (p : Position) (run : is_run p ≡ true) (x : Tree) where
  run_is_flat : (a : Arities) → IsFlat code z es site (in_declaration x) a p x
  run_is_flat a = by x
    where
      by : (y : Tree) → IsFlat code z es site (in_declaration x) a p y
      by nothing = tt
      by (named n ts) = tt
      by (op o w ps r) = λ row listed taken ts e k. absurd (run_kind p row.tail run k)

  pub run_agrees : (a : Arities) (levels : ℕ) → levels ≤ 512 → IsLawful (setting_of a None code) levels p set.empty x
      → Agree z es (term_uses site x) → Agrees z es code p site x
  run_agrees a levels less law all =
      let d = in_declaration x in
      deeper_by (told code z es site d) (512 - levels) levels 512 p set.empty x (omega (arith, less))
      (tree_agrees code z es site d a levels p x (run_is_flat a) law
      (subst (λ b. Agree z es (uses_in (use_of site d) b x)) (sym (run_asks p run)) all))

  pub run_told : Agrees z es code p site x → Agree z es (term_uses site x)
  run_told law =
      let d = in_declaration x in
      subst (λ b. Agree z es (uses_in (use_of site d) b x)) (run_asks p run) (tree_told code z es site d 512 p x law)
