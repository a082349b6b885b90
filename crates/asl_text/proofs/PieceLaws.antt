-- The text of a body's pieces is its lines.
use Rattle.std.proofs.Common.{◌≡◌, ℕ, zero, suc, Bool, true, false, cond, List, [], ◌∷◌, ◌++◌, flat_map, length}
use Rattle.std.proofs.Common.{Option, Some, None, option_map, refl, sym, ap, subst, ◌∙◌, append-nil, append_assoc}
use Rattle.std.proofs.lemmas.Grind.{flat_map-append}
use Rattle.std.specs.FinSet as set
use Rattle.aml_names.specs.declared.segments.Seg.{Seg}
use Rattle.aml_names.specs.declared.names.Name.{Name}
use Rattle.aml_names.specs.Paths.{PathSet}
use Rattle.aml_code.specs.declared.packages.PkgWidth.{PkgWidth}
use Rattle.aml_code.specs.declared.rows.PartKind.{PartKind}
use Rattle.aml_code.specs.declared.rows.PartKind.TheVariants as kinds
use Rattle.aml_code.specs.declared.rows.Position.{Position}
use Rattle.aml_code.specs.declared.rows.Position.TheVariants as positions
use Rattle.aml_code.specs.declared.rows.TailKind.{TailKind}
use Rattle.aml_code.specs.declared.rows.TailKind.TheVariants as tails
use Rattle.aml_code.specs.Opcodes.{Row, rows, row_of, takes}
use Rattle.aml_code.specs.Tree.{Tree, nothing, named, op, Trees, no_trees, tree_more, tree_count, Part, child, label}
use Rattle.aml_code.specs.Tree.{byte, dword, qword, text, Parts, no_parts, part_more, Tail, empty, terms, bytes}
use Rattle.aml_code.specs.Tree.{elements, fields, body, Field, unit, reserved, access, connection, extended, Fields}
use Rattle.aml_code.specs.Tree.{no_fields, field_more, Link, target, buffer, word as word_part}
use Rattle.aml_code.specs.Faults.{Arities, most_levels}
use Rattle.aml_code.specs.Lawful.{Setting, IsLawful, AreTerms, IsTail, IsPart, AreParts, AreFields, ReadsBody, after}
use Rattle.aml_code.specs.Lawful.{next_position, terms_in, tail_in, setting_of}
use Rattle.aml_code.specs.Pieces.{Told, opcode, deeper, part_count, pieces, items, more_items, part_pieces, parts_pieces}
use Rattle.aml_code.specs.Pieces.{more_parts, tail_pieces, line_pieces, fields_pieces, field_pieces, link_pieces}
use Rattle.aml_code.specs.Pieces.{end_of_call, end_of_parts, end_of_list, end_of_line, end_of_link}
use Rattle.aml_code.proofs.InnerLaws.{is_inner, inner_next}
use Rattle.aml_code.proofs.RowFacts.{rows_say}
use Rattle.aml_code.proofs.Takers.{taker_takes}
use Rattle.asl_text.specs.Pieces.{piece_text}
unfoldable use Rattle.asl_text.specs.Pieces.{opened, closed, row_opening, row_closing}
use Rattle.asl_text.specs.Texts.{name_text, joined, is_constant, inline, inlines, part_text, part_texts, tail_text}
use Rattle.asl_text.specs.Texts.{block, field_text, field_lines, op_lines, term_lines, all_lines, head_of}
unfoldable use Rattle.asl_text.specs.Texts.{separated, arguments_text, braced, head_text, indent, line, opening}
use Rattle.text_writer.specs.Prints.{word}

-- ---- texts one after the other

abbrev pub text_of : List Told → List ℕ
text_of ps = flat_map piece_text ps

-- pieces, one more, and others
pub among : (ps qs : List Told) (q : Told) → text_of (ps ++ q ∷ qs) ≡ text_of ps ++ (piece_text q ++ text_of qs)
among ps qs q = flat_map-append piece_text ps (q ∷ qs)

-- pieces and others, at first or behind a comma
both : (ps qs : List Told) (xs ys : List ℕ) → text_of ps ≡ xs → text_of qs ≡ ys → text_of (ps ++ qs) ≡ xs ++ ys
both ps qs xs ys e f = flat_map-append piece_text ps qs ∙ (λ i. e i ++ f i)

behind_comma : (ps qs : List Told) (xs ys : List ℕ) → text_of ps ≡ xs → text_of qs ≡ ys
    → word ", " ++ text_of (ps ++ qs) ≡ (word ", " ++ xs) ++ ys
behind_comma ps qs xs ys e f =
    ap (λ l. word ", " ++ l) (both ps qs xs ys e f) ∙ sym (append_assoc (word ", ") xs ys)

-- each text behind a comma
abbrev continued : List (List ℕ) → List ℕ
continued xs = flat_map (λ x. word ", " ++ x) xs

tree_texts : (ts : Trees) → tree_count ts ≡ length (inlines ts)
tree_texts no_trees = refl
tree_texts (tree_more t ts) = ap suc (tree_texts ts)

parts_texts : (ps : Parts) → part_count ps ≡ length (part_texts ps)
parts_texts no_parts = refl
parts_texts (part_more p ps) = ap suc (parts_texts ps)

-- a list by its first text and those behind a comma
joined_none : [] ≡ joined []
unfolding separated
joined_none = refl

joined_more : (x : List ℕ) (xs : List (List ℕ)) → x ++ continued xs ≡ joined (x ∷ xs)
unfolding separated
joined_more x xs = refl

in_braces : (xs : List (List ℕ)) → word " {" ++ (joined xs ++ (word "}" ++ [])) ≡ braced xs
unfolding braced
in_braces xs = simp (append_assoc, append-nil)

-- a list in parentheses, if it isn't empty
around : (xs : List (List ℕ)) (behind : List ℕ)
    → opened (length xs) ++ (joined xs ++ (closed (length xs) ++ behind)) ≡ arguments_text xs ++ behind
unfolding opened closed arguments_text separated
around [] behind = refl
around (x ∷ xs) behind = simp append_assoc

-- an opcode's parts
around_parts : (row : Option Row) (xs : List (List ℕ)) (behind : List ℕ)
    → row_opening row (length xs) ++ (joined xs ++ (row_closing row (length xs) ++ behind)) ≡ head_text row xs ++ behind
unfolding row_opening row_closing head_text
around_parts None xs behind = refl
around_parts (Some r) xs behind = by (is_constant r)
  where
    by : (b : Bool)
        → cond b [] (r.mnemonic ++ opened (length xs)) ++ (joined xs ++ (cond b [] (closed (length xs)) ++ behind))
        ≡ cond b (joined xs) (r.mnemonic ++ arguments_text xs) ++ behind
    by true = refl
    by false = append_assoc r.mnemonic (opened (length xs)) _ ∙ ap (λ l. r.mnemonic ++ l) (around xs behind)
        ∙ sym (append_assoc r.mnemonic (arguments_text xs) behind)

-- ---- a name, an opcode and a package, by what is inside

call_text : (level : ℕ) (n : Name) (ts : Trees) → text_of (items level ts) ≡ joined (inlines ts)
    → text_of (pieces level (named n ts)) ≡ inline (named n ts)
call_text level n ts e =
    ap (λ l. (name_text n ++ opened (tree_count ts)) ++ l) (among (items level ts) [] (end_of_call (tree_count ts))
    ∙ ap (λ l. l ++ (closed (tree_count ts) ++ [])) e)
    ∙ append_assoc (name_text n) (opened (tree_count ts)) _
    ∙ ap (λ l. name_text n ++ l) (ap (λ c. opened c ++ (joined (inlines ts) ++ (closed c ++ []))) (tree_texts ts)
    ∙ around (inlines ts) [] ∙ append-nil (arguments_text (inlines ts)))

-- an opcode with its parts, and what follows
pub head_text_of : (level o : ℕ) (w : Option PkgWidth) (ps : Parts) (qs : List Told)
    → text_of (parts_pieces level ps) ≡ joined (part_texts ps)
    → text_of (opcode o (row_of o) w (part_count ps)
    ∷ (parts_pieces level ps ++ end_of_parts (row_of o) (part_count ps) ∷ qs)) ≡ head_of o ps ++ text_of qs
head_text_of level o w ps qs e =
    let inside = text_of qs in
    ap (λ l. row_opening (row_of o) (part_count ps) ++ l)
    (among (parts_pieces level ps) qs (end_of_parts (row_of o) (part_count ps))
    ∙ ap (λ l. l ++ (row_closing (row_of o) (part_count ps) ++ inside)) e)
    ∙ ap (λ c. row_opening (row_of o) c ++ (joined (part_texts ps) ++ (row_closing (row_of o) c ++ inside)))
    (parts_texts ps)
    ∙ around_parts (row_of o) (part_texts ps) inside

elements_text : (level : ℕ) (ts : Trees) → text_of (items level ts) ≡ joined (inlines ts)
    → text_of (tail_pieces level (elements ts)) ≡ tail_text (elements ts)
elements_text level ts e =
    ap (λ l. word " {" ++ l) (among (items level ts) [] (end_of_list tails.Elements level)
    ∙ ap (λ l. l ++ (word "}" ++ [])) e)
    ∙ in_braces (inlines ts)

-- ---- a term that stands in a line has no block

-- no list of terms, and none of fields
abbrev pub is_flat : Option TailKind → Bool
is_flat (Some tails.Terms) = false
is_flat (Some tails.Fields) = false
is_flat _ = true

pub inner_flat : (p : Position) (o : ℕ) (r : Row) → is_inner p ≡ true → row_of o ≡ Some r → takes p r.place ≡ true
    → is_flat r.tail ≡ true
unfolding rows
inner_flat positions.Argument o r i e taken =
    rows_say (λ r. takes positions.Argument r.place) (λ r. is_flat r.tail) refl o r e taken
inner_flat positions.Target o r i e taken =
    rows_say (λ r. takes positions.Target r.place) (λ r. is_flat r.tail) refl o r e taken
inner_flat positions.Data o r i e taken =
    rows_say (λ r. takes positions.Data r.place) (λ r. is_flat r.tail) refl o r e taken
inner_flat _ o r i e taken = absurd cc

-- there a tail is kept as it is
pub inner_tail : (p : Position) (k : Option TailKind) → is_inner p ≡ true → option_map (tail_in p) k ≡ k
inner_tail p None i = refl
inner_tail positions.RunTerm (Some k) i = absurd cc
inner_tail positions.RunAfterIf (Some k) i = absurd cc
inner_tail _ (Some k) i = refl

module _ (s : Setting) (levels : ℕ) where
  pub no_terms : (p : Position) (k : Option TailKind) (ls : PathSet) (ts : Trees) → is_flat k ≡ true
      → IsTail s (IsLawful s levels) p k ls (terms ts) → ⊥
  no_terms p (Some tails.Terms) ls ts f h = absurd cc
  no_terms p _ ls ts f h = absurd h

  pub no_fields_there : (p : Position) (k : Option TailKind) (ls : PathSet) (us : Fields) → is_flat k ≡ true
      → IsTail s (IsLawful s levels) p k ls (fields us) → ⊥
  no_fields_there p (Some tails.Fields) ls us f h = absurd cc
  no_fields_there p _ ls us f h = absurd h

  pub tail_terms : (p : Position) (k : Option TailKind) (ls : PathSet) (ts : Trees)
      → IsTail s (IsLawful s levels) p k ls (terms ts) → AreTerms s levels p ls ts
  tail_terms p (Some tails.Terms) ls ts h = h
  tail_terms p _ ls ts h = absurd h

  pub tail_elements : (p : Position) (k : Option TailKind) (ls : PathSet) (ts : Trees)
      → IsTail s (IsLawful s levels) p k ls (elements ts) → AreTerms s levels positions.Data ls ts
  tail_elements p (Some tails.Elements) ls ts h = h
  tail_elements p _ ls ts h = absurd h

  pub tail_fields : (p : Position) (k : Option TailKind) (ls : PathSet) (us : Fields)
      → IsTail s (IsLawful s levels) p k ls (fields us) → AreFields (λ q. IsLawful s levels q ls) us
  tail_fields p (Some tails.Fields) ls us h = h
  tail_fields p _ ls us h = absurd h

-- ---- what stands in a line

mutual
  inner_text : (s : Setting) (levels : ℕ) (p : Position) (ls : PathSet) (level : ℕ) (t : Tree) → is_inner p ≡ true
      → IsLawful s levels p ls t → text_of (pieces level t) ≡ inline t
  inner_text s zero p ls level t i h = absurd h
  inner_text s (suc levels) p ls level nothing i h = refl
  inner_text s (suc levels) p ls level (named n ts) i h =
      call_text level n ts (items_text s levels positions.Argument ls level ts refl h.3)
  inner_text s (suc levels) p ls level (op o w ps t) i h =
      let flat = inner_flat p o h.row i h.listed (taker_takes p h.row.place h.taken) in
      head_text_of level o w ps (tail_pieces level t) (parts_text s levels ls level h.row.parts ps h.parts)
      ∙ ap (λ l. head_of o ps ++ l) (inner_tail_text s levels _ h.row.tail ls level t flat
      (subst (λ (k : Option TailKind). IsTail s (IsLawful s levels) (terms_in p h.row.place) k ls t)
      (inner_tail p h.row.tail i) h.tail))

  items_text : (s : Setting) (levels : ℕ) (p : Position) (ls : PathSet) (level : ℕ) (ts : Trees) → is_inner p ≡ true
      → AreTerms s levels p ls ts → text_of (items level ts) ≡ joined (inlines ts)
  items_text s levels p ls level no_trees i h = joined_none
  items_text s levels p ls level (tree_more t ts) i h =
      both (pieces level t) (more_items level ts) (inline t) (continued (inlines ts))
      (inner_text s levels p ls level t i h.0)
      (more_text s levels (next_position p t) (after s.scope ls t) level ts (inner_next p t i) h.1)
      ∙ joined_more (inline t) (inlines ts)

  more_text : (s : Setting) (levels : ℕ) (p : Position) (ls : PathSet) (level : ℕ) (ts : Trees) → is_inner p ≡ true
      → AreTerms s levels p ls ts
      → text_of (more_items level ts) ≡ continued (inlines ts)
  more_text s levels p ls level no_trees i h = refl
  more_text s levels p ls level (tree_more t ts) i h =
      behind_comma (pieces level t) (more_items level ts) (inline t) (continued (inlines ts))
      (inner_text s levels p ls level t i h.0)
      (more_text s levels (next_position p t) (after s.scope ls t) level ts (inner_next p t i) h.1)

  one_part : (s : Setting) (levels : ℕ) (ls : PathSet) (level : ℕ) (k : PartKind) (p : Part)
      → IsPart (λ q. IsLawful s levels q ls) k p → text_of (part_pieces level p) ≡ part_text p
  one_part s levels ls level kinds.Term (child t) h = inner_text s levels positions.Argument ls level t refl h
  one_part s levels ls level kinds.Target (child t) h = inner_text s levels positions.Target ls level t refl h
  one_part s levels ls level kinds.Data (child t) h = inner_text s levels positions.Data ls level t refl h
  one_part s levels ls level _ (child t) h = absurd h
  one_part s levels ls level k (label n) h = append-nil (part_text (label n))
  one_part s levels ls level k (byte b) h = append-nil (part_text (byte b))
  one_part s levels ls level k (word_part b) h = append-nil (part_text (word_part b))
  one_part s levels ls level k (dword b) h = append-nil (part_text (dword b))
  one_part s levels ls level k (qword b) h = append-nil (part_text (qword b))
  one_part s levels ls level k (text b) h = append-nil (part_text (text b))

  pub parts_text : (s : Setting) (levels : ℕ) (ls : PathSet) (level : ℕ) (ks : List PartKind) (ps : Parts)
      → AreParts (λ q. IsLawful s levels q ls) ks ps → text_of (parts_pieces level ps) ≡ joined (part_texts ps)
  parts_text s levels ls level ks no_parts h = joined_none
  parts_text s levels ls level [] (part_more p ps) h = absurd h
  parts_text s levels ls level (k ∷ ks) (part_more p ps) h =
      both (part_pieces level p) (more_parts level ps) (part_text p) (continued (part_texts ps))
      (one_part s levels ls level k p h.0) (more_parts_text s levels ls level ks ps h.1)
      ∙ joined_more (part_text p) (part_texts ps)

  more_parts_text : (s : Setting) (levels : ℕ) (ls : PathSet) (level : ℕ) (ks : List PartKind) (ps : Parts)
      → AreParts (λ q. IsLawful s levels q ls) ks ps
      → text_of (more_parts level ps) ≡ continued (part_texts ps)
  more_parts_text s levels ls level ks no_parts h = refl
  more_parts_text s levels ls level [] (part_more p ps) h = absurd h
  more_parts_text s levels ls level (k ∷ ks) (part_more p ps) h =
      behind_comma (part_pieces level p) (more_parts level ps) (part_text p) (continued (part_texts ps))
      (one_part s levels ls level k p h.0) (more_parts_text s levels ls level ks ps h.1)

  inner_tail_text : (s : Setting) (levels : ℕ) (p : Position) (k : Option TailKind) (ls : PathSet) (level : ℕ)
      (t : Tail)
      → is_flat k ≡ true → IsTail s (IsLawful s levels) p k ls t → text_of (tail_pieces level t) ≡ tail_text t
  inner_tail_text s levels p k ls level (terms ts) f h = absurd (no_terms s levels p k ls ts f h)
  inner_tail_text s levels p k ls level (fields us) f h = absurd (no_fields_there s levels p k ls us f h)
  inner_tail_text s levels p k ls level (elements ts) f h =
      elements_text level ts (items_text s levels positions.Data ls level ts refl (tail_elements s levels p k ls ts h))
  inner_tail_text s levels p k ls level empty f h = refl
  inner_tail_text s levels p k ls level (bytes bs) f h = append-nil (tail_text (bytes bs))
  inner_tail_text s levels p k ls level (body start len) f h = refl

-- ---- field lists

link_lines : (s : Setting) (levels : ℕ) (ls : PathSet) (level : ℕ) (l : Link)
    → AreFields (λ q. IsLawful s levels q ls) (field_more (connection l) no_fields)
    → text_of (link_pieces level l) ≡ field_text (connection l)
link_lines s levels ls level (target n) h = append-nil (field_text (connection (target n)))
link_lines s levels ls level (buffer t) h =
    ap (λ l. word "Connection (" ++ l) (among (pieces level t) [] end_of_link
    ∙ ap (λ l. l ++ (word ")" ++ [])) (inner_text s levels positions.Data ls level t refl h.0.1)
    ∙ ap (λ l. inline t ++ l) (append-nil (word ")")))
    ∙ sym (append_assoc (word "Connection (") (inline t) (word ")"))

field_line : (s : Setting) (levels : ℕ) (ls : PathSet) (level : ℕ) (u : Field)
    → AreFields (λ q. IsLawful s levels q ls) (field_more u no_fields)
    → text_of (field_pieces level u) ≡ field_text u
field_line s levels ls level (connection l) h = link_lines s levels ls level l h
field_line s levels ls level (unit g w n) h = append-nil (field_text (unit g w n))
field_line s levels ls level (reserved w n) h = append-nil (field_text (reserved w n))
field_line s levels ls level (access a b) h = append-nil (field_text (access a b))
field_line s levels ls level (extended a b c) h = append-nil (field_text (extended a b c))

-- a line, and what follows
one_line : (level : ℕ) (ps qs : List Told) (xs : List ℕ) → text_of ps ≡ xs
    → indent level ++ text_of (ps ++ end_of_line ∷ qs) ≡ line level xs ++ text_of qs
unfolding line
one_line level ps qs xs e =
    ap (λ l. indent level ++ l) (among ps qs end_of_line ∙ ap (λ l. l ++ (word "\n" ++ text_of qs)) e)
    ∙ simp append_assoc

fields_text : (s : Setting) (levels : ℕ) (ls : PathSet) (level : ℕ) (us : Fields)
    → AreFields (λ q. IsLawful s levels q ls) us → text_of (fields_pieces level us) ≡ field_lines level us
fields_text s levels ls level no_fields h = refl
fields_text s levels ls level (field_more u us) h =
    one_line level (field_pieces level u) (fields_pieces level us) (field_text u)
    (field_line s levels ls level u (h.0, tt))
    ∙ ap (λ l. line level (field_text u) ++ l) (fields_text s levels ls level us h.1)

-- ---- lines

-- a block: its head, what is inside, and the brace that closes it
block_is : (level : ℕ) (head inside lines more : List ℕ) → inside ≡ lines
    → indent level ++ ((head ++ (word " {\n" ++ (inside ++ ((indent level ++ word "}") ++ [])))) ++ (word "\n" ++ more))
    ≡ block level head lines ++ more
unfolding line opening
block_is level head inside lines more e = rw e (simp (append_assoc, append-nil))

-- a line: its head, and what else stands there
line_is : (level : ℕ) (head rest more : List ℕ)
    → indent level ++ ((head ++ rest) ++ (word "\n" ++ more)) ≡ line level (head ++ rest) ++ more
unfolding line
line_is level head rest more = simp append_assoc

mutual
  pub term_text : (s : Setting) (levels : ℕ) (p : Position) (ls : PathSet) (level : ℕ) (t : Tree) (qs : List Told)
      → IsLawful s levels p ls t
      → indent level ++ text_of (pieces level t ++ end_of_line ∷ qs) ≡ term_lines [] None level t ++ text_of qs
  term_text s zero p ls level t qs h = absurd h
  term_text s (suc levels) p ls level nothing qs h = one_line level (pieces level nothing) qs [] refl
  term_text s (suc levels) p ls level (named n ts) qs h =
      one_line level (pieces level (named n ts)) qs (inline (named n ts))
      (call_text level n ts (items_text s levels positions.Argument ls level ts refl h.3))
  term_text s (suc levels) p ls level (op o w ps t) qs h =
      ap (λ l. indent level ++ l) (among (pieces level (op o w ps t)) qs end_of_line
      ∙ ap (λ l. l ++ (word "\n" ++ text_of qs))
      (head_text_of level o w ps (tail_pieces level t) (parts_text s levels ls level h.row.parts ps h.parts)))
      ∙ tail_lines s levels _ _ ls level o ps t qs h.tail

  -- a line, or a block, by the tail
  tail_lines : (s : Setting) (levels : ℕ) (p : Position) (k : Option TailKind) (ls : PathSet) (level o : ℕ) (ps : Parts)
      (t : Tail) (qs : List Told)
      → IsTail s (IsLawful s levels) p k ls t
      → indent level ++ ((head_of o ps ++ text_of (tail_pieces level t)) ++ (word "\n" ++ text_of qs))
      ≡ op_lines [] None level o ps t ++ text_of qs
  tail_lines s levels p k ls level o ps (terms ts) qs h =
      ap (λ l. indent level ++ ((head_of o ps ++ (word " {\n" ++ l)) ++ (word "\n" ++ text_of qs)))
      (among (line_pieces (deeper level) ts) [] (end_of_list tails.Terms level))
      ∙ block_is level (head_of o ps) _ _ (text_of qs)
      (terms_text s levels p ls (deeper level) ts (tail_terms s levels p k ls ts h))
  tail_lines s levels p k ls level o ps (fields us) qs h =
      ap (λ l. indent level ++ ((head_of o ps ++ (word " {\n" ++ l)) ++ (word "\n" ++ text_of qs)))
      (among (fields_pieces (deeper level) us) [] (end_of_list tails.Fields level))
      ∙ block_is level (head_of o ps) _ _ (text_of qs)
      (fields_text s levels ls (deeper level) us (tail_fields s levels p k ls us h))
  tail_lines s levels p k ls level o ps (elements ts) qs h =
      ap (λ l. indent level ++ ((head_of o ps ++ l) ++ (word "\n" ++ text_of qs)))
      (elements_text level ts (items_text s levels positions.Data ls level ts refl
      (tail_elements s levels p k ls ts h)))
      ∙ line_is level (head_of o ps) (tail_text (elements ts)) (text_of qs)
  tail_lines s levels p k ls level o ps empty qs h = line_is level (head_of o ps) [] (text_of qs)
  tail_lines s levels p k ls level o ps (bytes bs) qs h =
      ap (λ l. indent level ++ ((head_of o ps ++ l) ++ (word "\n" ++ text_of qs))) (append-nil (tail_text (bytes bs)))
      ∙ line_is level (head_of o ps) (tail_text (bytes bs)) (text_of qs)
  tail_lines s levels p k ls level o ps (body start len) qs h =
      line_is level (head_of o ps) [] (text_of qs) ∙ ap (λ l. line level l ++ text_of qs) (append-nil (head_of o ps))

  pub terms_text : (s : Setting) (levels : ℕ) (p : Position) (ls : PathSet) (level : ℕ) (ts : Trees)
      → AreTerms s levels p ls ts → text_of (line_pieces level ts) ≡ all_lines level ts
  terms_text s levels p ls level no_trees h = refl
  terms_text s levels p ls level (tree_more t ts) h =
      term_text s levels p ls level t (line_pieces level ts) h.0
      ∙ ap (λ l. term_lines [] None level t ++ l)
      (terms_text s levels (next_position p t) (after s.scope ls t) level ts h.1)

pub body_text : (arity : Arities) (method : List Seg) (code : List ℕ) (level : ℕ) (ts : Trees)
    → ReadsBody arity method code ts
    → flat_map piece_text (line_pieces level ts) ≡ all_lines level ts
body_text arity method code level ts h =
    terms_text (setting_of arity (Some method) code) most_levels positions.BodyTerm set.empty level ts h.lawful
