-- What is made of the pieces of a table's terms is their lines, with the bodies in their places.
use Rattle.asl_text.proofs.Common.{◌≡◌, ℕ, Bool, true, false, List, [], ◌∷◌, ◌++◌, length, drop, append_assoc}
use Rattle.asl_text.proofs.Common.{append-nil, refl, sym, ap, subst, ◌∙◌, arith, length-append, map-append}
use Rattle.asl_text.proofs.Common.{Option, Some, None, Row, Name, PkgWidth, BodyLines, first_lines, behind, deeper}
use Rattle.asl_text.proofs.Common.{head_of, block, op_lines, term_lines, terms_lines, levels_in, name_text}
use Rattle.asl_text.proofs.Common.{tail_levels, all_levels, word, line, indent, opening, method_text}
use Rattle.std.proofs.Common.{◌≤◌, ◌==◌, zero, suc, not, option_map}
use Rattle.std.specs.FinSet as set
use Rattle.std.specs.List.{fold}
use Rattle.std.proofs.lemmas.Bool.{eqb-true}
use Rattle.std.proofs.lemmas.Grind.{fold-append}
use Rattle.std.proofs.lemmas.List.{length-map}
use Rattle.aml_names.specs.Paths.{PathSet}
use Rattle.aml_code.specs.declared.rows.Place as rows_place
use Rattle.aml_code.specs.declared.rows.Place.TheVariants as row_places
use Rattle.aml_code.specs.declared.rows.PartKind.{PartKind}
use Rattle.aml_code.specs.declared.rows.PartKind.TheVariants as kinds
use Rattle.aml_code.specs.declared.rows.Position.{Position}
use Rattle.aml_code.specs.declared.rows.Position.TheVariants as positions
use Rattle.aml_code.specs.declared.rows.TailKind.{TailKind}
use Rattle.aml_code.specs.declared.rows.TailKind.TheVariants as tails
use Rattle.aml_code.specs.Faults.{most_levels}
use Rattle.aml_code.specs.Lawful.{Setting, IsLawful, AreTerms, IsTail, IsPart, AreParts, ReadsModule, after}
use Rattle.aml_code.specs.Lawful.{next_position, terms_in, tail_in, setting_of, no_arguments}
use Rattle.aml_code.specs.Opcodes.{rows, row_of, takes, has_length}
use Rattle.aml_code.specs.Pieces.{Told, opcode, part, tail, next, part_count, pieces, items, parts_pieces, tail_pieces}
use Rattle.aml_code.specs.Pieces.{line_pieces, end_of_call, end_of_parts, end_of_list, end_of_line, list}
use Rattle.aml_code.specs.Pieces.{line as line_of}
use Rattle.aml_code.specs.Tree.{Tree, nothing, named, op, Trees, no_trees, tree_more, tree_count, Part, label, byte}
use Rattle.aml_code.specs.Tree.{Parts, no_parts, part_more, Tail, terms, body, slice_of}
use Rattle.aml_code.proofs.RowFacts.{rows_say, row_opcode}
use Rattle.aml_code.proofs.Takers.{taker_takes}
use Rattle.asl_text.proofs.BlockLaws.{behind_both}
use Rattle.asl_text.proofs.PieceLaws.{text_of, head_text_of, parts_text, term_text, tail_terms}
use Rattle.asl_text.proofs.PlainLaws.{is_plain, ArePlain, plain_then, plain_op, plain_pieces, plain_items, plain_parts}
use Rattle.asl_text.proofs.PlainLaws.{is_a_line, plain_kept}
use Rattle.asl_text.proofs.WovenLaws.{Ordered, ordered_longer, ordered_place, woven_text, woven_place, weave, IsReady}
unfoldable use Rattle.asl_text.specs.Pieces.{opened, closed, row_opening, row_closing}
use Rattle.asl_text.specs.Tables.{Made, grown, made_text, has_body, is_method, woven, place_levels}
use Rattle.asl_text.specs.Texts.{flags_text}
use Rattle.asl_text.specs.declared.tables.Place.{Place}

-- these pieces make a text with one place in it
pub record Opens (m n : Made) (before after : List ℕ) (level start len : ℕ) : Type 0 where
  pub text : n.text ≡ (m.text ++ before) ++ after
  pub places : n.places
      ≡ m.places ++ record { at = length (m.text ++ before); level = level; start = start; len = len } ∷ []
  pub outside : n.in_method ≡ false

module _ (code : List ℕ) where
  -- Pieces add these lines, which take the bodies of these levels.
  pub record Adds (ps : List Told) (lines : List BodyLines → List ℕ) (levels : List ℕ) : Type 0 where
    pub ready : (m : Made) → IsReady m → IsReady (fold grown m ps)
    pub text : (m : Made) → IsReady m → (bs : List BodyLines)
        → weave code bs (fold grown m ps) ≡ weave code bs m ++ lines (behind (place_levels m.places) bs)
    pub places : (m : Made) → IsReady m
        → place_levels (fold grown m ps).places ≡ place_levels m.places ++ levels

  pub adds_same : (ps qs : List Told) (f g : List BodyLines → List ℕ) (ls ks : List ℕ) → Adds ps f ls → ps ≡ qs
      → ((bs : List BodyLines) → f bs ≡ g bs) → ls ≡ ks → Adds qs g ks
  adds_same ps qs f g ls ks a e lines levels =
      subst (λ (xs : List Told). Adds xs g ks) e (record {
        ready = a.ready;
        text = λ m r bs. a.text m r bs ∙ ap (λ l. weave code bs m ++ l) (lines (behind (place_levels m.places) bs));
        places = λ m r. a.places m r ∙ ap (λ l. place_levels m.places ++ l) levels;
      })

  pub adds_none : Adds [] (λ _. []) []
  adds_none = record {
    ready = λ m r. r;
    text = λ m r bs. sym (append-nil (weave code bs m));
    places = λ m r. sym (append-nil (place_levels m.places));
  }

  -- one after the other
  pub adds_both : (ps qs : List Told) (f g : List BodyLines → List ℕ) (ls ks : List ℕ) → Adds ps f ls → Adds qs g ks
      → Adds (ps ++ qs) (λ bs. f bs ++ g (behind ls bs)) (ls ++ ks)
  adds_both ps qs f g ls ks a b = record {
    ready = λ m r. subst (IsReady) (sym (fold-append grown m ps qs)) (b.ready (fold grown m ps) (a.ready m r));
    text = λ m r bs.
        let here = behind (place_levels m.places) bs in
        ap (weave code bs) (fold-append grown m ps qs)
        ∙ b.text (fold grown m ps) (a.ready m r) bs
        ∙ (λ i. a.text m r bs i ++ g (behind (a.places m r i) bs))
        ∙ append_assoc (weave code bs m) (f here) (g (behind (place_levels m.places ++ ls) bs))
        ∙ ap (λ (cs : List BodyLines). weave code bs m ++ (f here ++ g cs)) (sym (behind_both (place_levels m.places) ls bs));
    places = λ m r.
        ap (λ (n : Made). place_levels n.places) (fold-append grown m ps qs)
        ∙ b.places (fold grown m ps) (a.ready m r) ∙ ap (λ l. l ++ ks) (a.places m r)
        ∙ append_assoc (place_levels m.places) ls ks;
  }

  -- pieces of no method
  pub adds_plain : (ps : List Told) → ArePlain ps → Adds ps (λ _. text_of ps) []
  adds_plain ps e = record {
    ready = λ m r.
        let x = plain_pieces m ps e r.0 in
        let longer : length m.text ≤ length (fold grown m ps).text = omega (arith, ap length x.text, length-append m.text (text_of ps)) in (
          x.outside,
          subst (λ (places : List Place). Ordered 0 places (length (fold grown m ps).text)) (sym x.places)
              (ordered_longer 0 m.places (length m.text) (length (fold grown m ps).text) longer r.1),
        );
    text = λ m r bs.
        let x = plain_pieces m ps e r.0 in
        (λ i. woven code bs (x.text i) 0 (x.places i)) ∙ woven_text code bs m.text (text_of ps) 0 m.places r.1;
    places = λ m r.
        let x = plain_pieces m ps e r.0 in
        ap place_levels x.places ∙ sym (append-nil (place_levels m.places));
  }

  -- ---- a method

  pub adds_place : (ps : List Told) (before after : List ℕ) (level start len : ℕ)
      → ((m : Made) → m.in_method ≡ false → Opens m (fold grown m ps) before after level start len)
      → Adds ps (λ bs. (before ++ first_lines bs level (slice_of code start len)) ++ after) (level ∷ [])
  adds_place ps before after level start len opens = record {
    ready = λ m r.
        let x = opens m r.0 in
        let here = length (m.text ++ before) in
        let p : Place = record { at = here; level = level; start = start; len = len } in
        let low : length m.text ≤ here = omega (arith, length-append m.text before) in
        let high : here ≤ length (fold grown m ps).text = omega (arith, ap length x.text, length-append (m.text ++ before) after) in (
          x.outside,
          subst (λ (places : List Place). Ordered 0 places (length (fold grown m ps).text)) (sym x.places)
              (ordered_place 0 m.places p (length m.text) (length (fold grown m ps).text) r.1 low high),
        );
    text = λ m r bs.
        let x = opens m r.0 in
        let here = length (m.text ++ before) in
        let p : Place = record { at = here; level = level; start = start; len = len } in
        let low : length m.text ≤ here = omega (arith, length-append m.text before) in
        let longer : Ordered 0 m.places here = ordered_longer 0 m.places (length m.text) here low r.1 in
        let lines = λ (cs : List BodyLines). first_lines cs level (slice_of code start len) in
        let count : length m.places ≡ length (place_levels m.places) = sym (length-map m.places (λ (q : Place). q.level)) in
        (λ i. woven code bs (x.text i) 0 (x.places i))
        ∙ woven_text code bs (m.text ++ before) after 0 (m.places ++ p ∷ [])
        (ordered_place 0 m.places p (length m.text) here r.1 low (omega arith))
        ∙ ap (λ l. l ++ after) (woven_place code bs (m.text ++ before) 0 m.places p longer refl
        ∙ (λ i. woven_text code bs m.text before 0 m.places r.1 i ++ lines (drop (count i) bs))
        ∙ append_assoc (weave code bs m) before (lines (behind (place_levels m.places) bs)))
        ∙ append_assoc (weave code bs m) (before ++ lines (behind (place_levels m.places) bs)) after;
    places = λ m r.
        let x = opens m r.0 in
        let here = length (m.text ++ before) in
        ap place_levels x.places
        ∙ map-append (λ (q : Place). q.level) m.places (record { at = here; level = level; start = start; len = len } ∷ []);
  }

-- a term with no terms inside
abbrev pub holds_none : Tree → Bool
holds_none (op o w ps t) = is_a_line t
holds_none _ = true

-- a term whose tail is kept as it is
abbrev pub Keeps : Position → Tree → Type 0
Keeps p (op o w ps t) = (r : Row) → row_of o ≡ Some r → option_map (tail_in p) r.tail ≡ r.tail
Keeps p _ = Unit {0}

-- ---- which terms stand in a table

is_table : Position → Bool
is_table positions.ModuleTerm = true
is_table positions.GuardTerm = true
is_table _ = false

table_next : (p : Position) (t : Tree) → is_table p ≡ true → is_table (next_position p t) ≡ true
unfolding is_table
table_next positions.ModuleTerm t i = refl
table_next positions.GuardTerm t i = refl
table_next _ t i = absurd cc

-- there a tail is kept as it is
table_tail : (p : Position) (k : Option TailKind) → is_table p ≡ true → option_map (tail_in p) k ≡ k
unfolding is_table
table_tail p None i = refl
table_tail positions.ModuleTerm (Some k) i = refl
table_tail positions.GuardTerm (Some k) i = refl
table_tail _ (Some k) i = absurd cc

table_keeps : (p : Position) (t : Tree) → is_table p ≡ true → Keeps p t
table_keeps p (op o w ps t) i = λ r e. table_tail p r.tail i
table_keeps p _ i = tt

-- the terms inside a term stand in a table too: a guard has only Externals, which have none
inside_table : (p : Position) (o : ℕ) (r : Row) → is_table p ≡ true → row_of o ≡ Some r → takes p r.place ≡ true
    → has_length r.tail ≡ true
    → is_table (terms_in p r.place) ≡ true
unfolding is_table rows
inside_table positions.ModuleTerm o r i e taken long = inside r.place
  where
    inside : (place : rows_place.Place) → is_table (terms_in positions.ModuleTerm place) ≡ true
    inside row_places.If = refl
    inside _ = refl
inside_table positions.GuardTerm o r i e taken long =
    absurd (cc (rows_say (λ r. takes positions.GuardTerm r.place) (λ r. not (has_length r.tail)) refl o r e taken))
inside_table _ o r i e taken long = absurd cc

module _ (s : Setting) (levels : ℕ) where
  has_a_block : (p : Position) (k : Option TailKind) (ls : PathSet) (ts : Trees)
      → IsTail s (IsLawful s levels) p k ls (terms ts)
      → (has_length k ≡ true) × (not (has_body k) ≡ true)
  has_a_block p (Some tails.Terms) ls ts h = (refl, refl)
  has_a_block p _ ls ts h = absurd h

  has_no_body : (p : Position) (k : Option TailKind) (ls : PathSet) (t : Tail) → is_plain (tail t) ≡ true
      → IsTail s (IsLawful s levels) p k ls t → not (has_body k) ≡ true
  has_no_body p (Some tails.Body) ls (body start len) f h = absurd cc
  has_no_body p (Some tails.Body) ls _ f h = absurd h
  has_no_body p _ ls t f h = refl

  has_a_body : (p : Position) (k : Option TailKind) (ls : PathSet) (start len : ℕ)
      → IsTail s (IsLawful s levels) p k ls (body start len)
      → has_body k ≡ true
  has_a_body p (Some tails.Body) ls start len h = refl
  has_a_body p _ ls start len h = absurd h

pub no_method : (o : ℕ) (r : Row) → row_of o ≡ Some r → not (has_body r.tail) ≡ true
    → not (is_method (row_of o)) ≡ true
no_method o r e h = ap (λ (x : Option Row). not (is_method x)) e ∙ h

-- ---- the row of Method

abbrev IsMethodRow : Option Row → Type 0
IsMethodRow None = ⊥
IsMethodRow (Some r) =
    (r.parts ≡ kinds.Name ∷ kinds.Byte ∷ []) × (row_opening (Some r) 2 ≡ word "Method (")
    × (row_closing (Some r) 2 ≡ word ")") × (is_method (Some r) ≡ true)

method_row : (o : ℕ) (r : Row) → row_of o ≡ Some r → has_body r.tail ≡ true → IsMethodRow (Some r)
unfolding row_of rows row_opening row_closing opened closed word
method_row o r e h =
    let test = rows_say (λ r. has_body r.tail) (λ r. r.opcode == 0x14) refl o r e h in
    let is : 0x14 ≡ o = sym (eqb-true r.opcode 0x14 test) ∙ row_opcode o r e in
    subst IsMethodRow (ap row_of is ∙ e) (refl, refl, refl, refl)

-- its parts are a name and a byte
module _ (Is : Position → Tree → Type 0) where
  is_label : (x : Part) → IsPart Is kinds.Name x → (n : Name) × (x ≡ label n)
  is_label (label n) h = (n, refl)
  is_label _ h = absurd h

  is_byte : (x : Part) → IsPart Is kinds.Byte x → (b : ℕ) × (x ≡ byte b)
  is_byte (byte b) h = (b, refl)
  is_byte _ h = absurd h

  is_end : (ps : Parts) → AreParts Is [] ps → ps ≡ no_parts
  is_end no_parts h = refl
  is_end (part_more p ps) h = absurd h

  method_parts : (ps : Parts) → AreParts Is (kinds.Name ∷ kinds.Byte ∷ []) ps
      → (n : Name) × (flags : ℕ) × (ps ≡ part_more (label n) (part_more (byte flags) no_parts))
  method_parts no_parts h = absurd h
  method_parts (part_more x no_parts) h = absurd h.1
  method_parts (part_more x (part_more y ps)) h =
      let n = is_label x h.0 in
      let flags = is_byte y h.1.0 in
      let all : part_more x (part_more y ps) ≡ part_more (label n.0) (part_more (byte flags.0) no_parts) =
      λ i. part_more (n.1 i) (part_more (flags.1 i) (is_end ps h.1.1 i)) in
      (n.0, flags.0, all)

-- what is made of a method's pieces up to the brace
method_opening : (text : List ℕ) (level : ℕ) (row : Option Row) (n : Name) (flags : ℕ) → IsMethodRow row
    → ((((((text ++ indent level) ++ row_opening row 2) ++ made_text (is_method row) (part (label n)))
    ++ made_text (is_method row) next) ++ made_text (is_method row) (part (byte flags)))
    ++ made_text (is_method row) (end_of_parts row 2)) ++ word " {\n" ≡ text ++ opening level (method_text n flags)
unfolding opening method_text
method_opening text level None n flags h = absurd h
method_opening text level (Some r) n flags h =
    (λ i. ((((((text ++ indent level) ++ h.1 i) ++ made_text (h.3 i) (part (label n)))
    ++ made_text (h.3 i) next) ++ made_text (h.3 i) (part (byte flags)))
    ++ made_text (h.3 i) (end_of_parts (Some r) 2)) ++ word " {\n")
    ∙ (λ i. ((((((text ++ indent level) ++ word "Method (") ++ name_text n) ++ []) ++ flags_text flags) ++ h.2 i) ++ word " {\n")
    ∙ simp (append_assoc, append-nil)

method_pieces : (level o : ℕ) (row : Option Row) (w : Option PkgWidth) (n : Name) (flags start len : ℕ) → List Told
method_pieces level o row w n flags start len =
    line_of level ∷ opcode o row w 2 ∷ part (label n) ∷ next ∷ part (byte flags) ∷ end_of_parts row 2
    ∷ tail (body start len) ∷ end_of_line ∷ []

method_opens : (m : Made) (level o : ℕ) (row : Option Row) (w : Option PkgWidth) (n : Name) (flags start len : ℕ)
    → IsMethodRow row
    → Opens m (fold grown m (method_pieces level o row w n flags start len)) (opening level (method_text n flags))
    (line level (word "}")) (deeper level) start len
unfolding method_pieces line
method_opens m level o row w n flags start len h =
    let head = method_opening m.text level row n flags h in record {
      text = ap (λ l. (l ++ (indent level ++ word "}")) ++ word "\n") head
          ∙ append_assoc (m.text ++ opening level (method_text n flags)) (indent level ++ word "}") (word "\n");
      places = ap (λ (l : List ℕ). m.places ++ record { at = length l; level = deeper level; start = start; len = len } ∷ []) head;
      outside = refl;
    }

-- ---- lines

-- the pieces of a term's line
abbrev pub term_pieces : ℕ → Tree → List Told
term_pieces level t = line_of level ∷ (pieces level t ++ end_of_line ∷ [])

block_around : (level : ℕ) (front head inside : List ℕ) → front ≡ indent level ++ (head ++ (word " {\n" ++ []))
    → front ++ (inside ++ ((indent level ++ word "}") ++ (word "\n" ++ []))) ≡ block level head inside
unfolding line opening
block_around level front head inside e = rw e (simp (append_assoc, append-nil))

module _ (code : List ℕ) where
  -- a term without methods
  flat_term : (s : Setting) (levels : ℕ) (p : Position) (ls : PathSet) (level : ℕ) (t : Tree)
      → IsLawful s levels p ls t → ArePlain (pieces level t)
      → Adds code (term_pieces level t) (λ bs. term_lines [] None level t) []
  flat_term s levels p ls level t h plain =
      let all = plain_then (pieces level t) end_of_line refl plain in
      adds_same code (term_pieces level t) (term_pieces level t) (λ bs. text_of (term_pieces level t))
      (λ bs. term_lines [] None level t) [] [] (adds_plain code (term_pieces level t) all) refl
      (λ bs. term_text s levels p ls level t [] h ∙ append-nil (term_lines [] None level t)) refl

  flat_op : (s : Setting) (levels : ℕ) (p : Position) (ls : PathSet) (level o : ℕ) (w : Option PkgWidth) (ps : Parts)
      (t : Tail)
      → IsLawful s (suc levels) p ls (op o w ps t) → not (is_method (row_of o)) ≡ true
      → ArePlain (tail_pieces level t)
      → Adds code (term_pieces level (op o w ps t)) (λ bs. term_lines [] None level (op o w ps t)) []
  flat_op s levels p ls level o w ps t h none plain =
      flat_term s (suc levels) p ls level (op o w ps t) h
      (plain_op level o w ps (row_of o) (tail_pieces level t) none
      (plain_parts s levels ls level h.row.parts ps h.parts) plain)

  -- a method
  method_term : (s : Setting) (levels : ℕ) (p : Position) (ls : PathSet) (level o : ℕ) (w : Option PkgWidth) (ps : Parts)
      (start len : ℕ)
      → (h : IsLawful s (suc levels) p ls (op o w ps (body start len))) → has_body h.row.tail ≡ true
      → Adds code (term_pieces level (op o w ps (body start len)))
      (λ bs. op_lines code (Some bs) level o ps (body start len)) (deeper level ∷ [])
  unfolding method_pieces
  method_term s levels p ls level o w ps start len h has =
      let row = method_row o h.row h.listed has in
      let parts = method_parts (λ q. IsLawful s levels q ls) ps
      (subst (λ (ks : List PartKind). AreParts (λ q. IsLawful s levels q ls) ks ps) row.0 h.parts) in
      let n = parts.0 in
      let flags = parts.1 in
      let listed : IsMethodRow (row_of o) = subst IsMethodRow (sym h.listed) row in
      subst (λ (xs : Parts). Adds code (term_pieces level (op o w xs (body start len)))
      (λ bs. op_lines code (Some bs) level o xs (body start len)) (deeper level ∷ [])) (sym parts.2)
      (adds_place code (method_pieces level o (row_of o) w n flags start len) (opening level (method_text n flags))
      (line level (word "}")) (deeper level) start len
      (λ m out. method_opens m level o (row_of o) w n flags start len listed))

  -- a term with terms inside
  pub block_term : (s : Setting) (levels : ℕ) (ls : PathSet) (level o : ℕ) (w : Option PkgWidth) (ks : List PartKind)
      (ps : Parts) (ts : Trees)
      → AreParts (λ q. IsLawful s levels q ls) ks ps → not (is_method (row_of o)) ≡ true
      → Adds code (line_pieces (deeper level) ts) (λ bs. terms_lines code (Some bs) (deeper level) ts)
      (all_levels (deeper level) ts)
      → Adds code (term_pieces level (op o w ps (terms ts)))
      (λ bs. op_lines code (Some bs) level o ps (terms ts)) (all_levels (deeper level) ts)
  block_term s levels ls level o w ks ps ts h none inside =
      let before = line_of level ∷ opcode o (row_of o) w (part_count ps)
      ∷ (parts_pieces level ps ++ end_of_parts (row_of o) (part_count ps) ∷ list tails.Terms ∷ []) in
      let within = line_pieces (deeper level) ts in
      let after = end_of_list tails.Terms level ∷ end_of_line ∷ [] in
      let lines = λ (bs : List BodyLines). terms_lines code (Some bs) (deeper level) ts in
      let parts = plain_parts s levels ls level ks ps h in
      let plain = plain_op level o w ps (row_of o) (list tails.Terms ∷ []) none parts refl in
      let rest = adds_both code within after lines (λ bs. text_of after) (all_levels (deeper level) ts) [] inside
      (adds_plain code after refl) in
      let all = adds_both code before (within ++ after) (λ bs. text_of before) (λ bs. lines bs ++ text_of after) []
      (all_levels (deeper level) ts ++ []) (adds_plain code before plain) rest in
      let same : before ++ (within ++ after) ≡ term_pieces level (op o w ps (terms ts)) = simp append_assoc in
      let head = ap (λ l. indent level ++ l) (head_text_of level o w ps (list tails.Terms ∷ [])
      (parts_text s levels ls level ks ps h)) in
      adds_same code (before ++ (within ++ after)) (term_pieces level (op o w ps (terms ts)))
      (λ bs. text_of before ++ (lines bs ++ text_of after)) (λ bs. op_lines code (Some bs) level o ps (terms ts))
      (all_levels (deeper level) ts ++ []) (all_levels (deeper level) ts) all same
      (λ bs. block_around level (text_of before) (head_of o ps) (lines bs) head) (append-nil (all_levels (deeper level) ts))

  -- a term without terms inside
  pub line_term : (s : Setting) (levels : ℕ) (p : Position) (ls : PathSet) (level : ℕ) (t : Tree) → holds_none t ≡ true
      → Keeps p t → IsLawful s levels p ls t
      → Adds code (term_pieces level t) (λ bs. term_lines code (Some bs) level t) (levels_in level t)
  line_term s zero p ls level t l keeps h = absurd h
  line_term s (suc levels) p ls level nothing l keeps h = flat_term s (suc levels) p ls level nothing h refl
  line_term s (suc levels) p ls level (named n ts) l keeps h =
      flat_term s (suc levels) p ls level (named n ts) h
      (plain_then (items level ts) (end_of_call (tree_count ts)) refl
      (plain_items s levels positions.Argument ls level ts refl h.3))
  line_term s (suc levels) p ls level (op o w ps t) l keeps h =
      line_op s levels p ls level o w ps t l h
      (subst (λ (k : Option TailKind). IsTail s (IsLawful s levels) (terms_in p h.row.place) k ls t)
      (keeps h.row h.listed) h.tail)
    where
      line_op : (s : Setting) (levels : ℕ) (p : Position) (ls : PathSet) (level o : ℕ) (w : Option PkgWidth)
          (ps : Parts) (t : Tail) → is_a_line t ≡ true → (h : IsLawful s (suc levels) p ls (op o w ps t))
          → IsTail s (IsLawful s levels) (terms_in p h.row.place) h.row.tail ls t
          → Adds code (term_pieces level (op o w ps t)) (λ bs. op_lines code (Some bs) level o ps t)
          (tail_levels (deeper level) t)
      line_op s levels p ls level o w ps (terms ts) l h kept = absurd cc
      line_op s levels p ls level o w ps (body start len) l h kept =
          method_term s levels p ls level o w ps start len h
          (has_a_body s levels (terms_in p h.row.place) h.row.tail ls start len kept)
      line_op s levels p ls level o w ps t l h kept =
          let q = terms_in p h.row.place in
          flat_op s levels p ls level o w ps t h
          (no_method o h.row h.listed (has_no_body s levels q h.row.tail ls t refl kept))
          (plain_kept s levels q h.row.tail ls level t refl l kept)

  -- a term, and those behind it
  pub terms_then : (level : ℕ) (t : Tree) (ts : Trees)
      → Adds code (term_pieces level t) (λ bs. term_lines code (Some bs) level t) (levels_in level t)
      → Adds code (line_pieces level ts) (λ bs. terms_lines code (Some bs) level ts) (all_levels level ts)
      → Adds code (line_pieces level (tree_more t ts)) (λ bs. terms_lines code (Some bs) level (tree_more t ts))
      (all_levels level (tree_more t ts))
  terms_then level t ts first rest =
      let lines = λ (bs : List BodyLines). terms_lines code (Some bs) level (tree_more t ts) in
      let levels = all_levels level (tree_more t ts) in
      let all = adds_both code (term_pieces level t) (line_pieces level ts) (λ bs. term_lines code (Some bs) level t)
      (λ bs. terms_lines code (Some bs) level ts) (levels_in level t) (all_levels level ts) first rest in
      let same : term_pieces level t ++ line_pieces level ts ≡ line_pieces level (tree_more t ts) = simp append_assoc in
      adds_same code (term_pieces level t ++ line_pieces level ts) (line_pieces level (tree_more t ts)) lines lines levels
      levels all same (λ bs. refl) refl

  mutual
    table_term : (s : Setting) (levels : ℕ) (p : Position) (ls : PathSet) (level : ℕ) (t : Tree) → is_table p ≡ true
        → IsLawful s levels p ls t
        → Adds code (term_pieces level t) (λ bs. term_lines code (Some bs) level t) (levels_in level t)
    table_term s zero p ls level t i h = absurd h
    table_term s (suc levels) p ls level (op o w ps (terms ts)) i h =
        let q = terms_in p h.row.place in
        let kept = subst (λ (k : Option TailKind). IsTail s (IsLawful s levels) q k ls (terms ts))
        (table_tail p h.row.tail i) h.tail in
        let has = has_a_block s levels q h.row.tail ls ts kept in
        let taken = taker_takes p h.row.place h.taken in
        block_term s levels ls level o w h.row.parts ps ts h.parts (no_method o h.row h.listed has.1)
        (table_terms s levels q ls (deeper level) ts (inside_table p o h.row i h.listed taken has.0)
        (tail_terms s levels q h.row.tail ls ts kept))
    table_term s (suc levels) p ls level t i h = line_term s (suc levels) p ls level t refl (table_keeps p t i) h

    table_terms : (s : Setting) (levels : ℕ) (p : Position) (ls : PathSet) (level : ℕ) (ts : Trees) → is_table p ≡ true
        → AreTerms s levels p ls ts
        → Adds code (line_pieces level ts) (λ bs. terms_lines code (Some bs) level ts) (all_levels level ts)
    table_terms s levels p ls level no_trees i h = adds_none code
    table_terms s levels p ls level (tree_more t ts) i h =
        terms_then level t ts (table_term s levels p ls level t i h.0)
        (table_terms s levels (next_position p t) (after s.scope ls t) level ts (table_next p t i) h.1)

  pub module_adds : (level : ℕ) (ts : Trees) → ReadsModule code ts
      → Adds code (line_pieces level ts) (λ bs. terms_lines code (Some bs) level ts) (all_levels level ts)
  unfolding is_table
  module_adds level ts h =
      table_terms (setting_of no_arguments None code) most_levels positions.ModuleTerm set.empty level ts refl h.lawful
