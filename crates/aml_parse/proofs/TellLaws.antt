-- Telling one piece after the other.
use Rattle.aml_parse.proofs.Common.{◌≡◌, ℕ, zero, suc, ◌-◌, ◌<◌, ◌==◌, Bool, true, false, List, [], ◌∷◌, ◌++◌, length, Option, Some, None}
use Rattle.aml_parse.proofs.Common.{Result, Ok, Err, refl, sym, ap, subst, arith, Seg, Name, CodeFault, PathSet}
use Rattle.aml_parse.proofs.Common.{name_at, byte_at, length_at, segment_at, is_name_lead, read_on, ◌>>=◌, ok_or, Row, Position, TailKind, PkgWidth, Arities}
use Rattle.aml_parse.proofs.Common.{Tree, nothing, named, op, Trees, no_trees, tree_more, Part, Parts, no_parts, part_more, Tail, empty}
use Rattle.aml_parse.proofs.Common.{Field, no_fields, field_more, count_in, names_declared, with_declared, is_guard}
use Rattle.aml_parse.proofs.Common.{terms_in, tail_in, span_at, Fails, inl, inr, ok_is, Link, target, buffer}
use Rattle.aml_parse.proofs.Common.{row_opcode, takes, append-nil, append_assoc, ◌∙◌}
use Rattle.std.specs.Prelude.{flat_map, if◌then◌else◌}
use Rattle.std.proofs.lemmas.List.{flat_map_more}
use Rattle.aml_parse.specs.Reading.{opcode_at, refusal}
use Rattle.aml_parse.specs.Reading.{Reader, arguments_at, parts_at, call_at, plain_at, packed_at, tail_at, guard_at, taken_at}
use Rattle.aml_parse.specs.Reading.{operation_at, takes_names, is_absent_target, term_at, read_at}
use Rattle.aml_parse.specs.Reading.{held, segmented_at, link_at, field_at, reserved_unit, access_unit, extended_unit, named_unit}
use Rattle.aml_code.specs.Pieces.{Told, name, end_of_call, opcode, end_of_parts, next, field, list, end_of_list, line, end_of_line, link, end_of_link}
use Rattle.aml_code.specs.Pieces.{pieces, items, more_items, part_pieces, parts_pieces, more_parts, tail_pieces, line_pieces, fields_pieces, field_pieces}
use Rattle.aml_code.specs.Pieces.{part_count, link_pieces}
use Rattle.aml_code.specs.Tree.{tree_count}
use Rattle.aml_code.specs.Tree.{child, label, byte, word, dword, qword, text, unit, reserved, access, connection, extended}
use Rattle.aml_code.specs.Opcodes.{row_of}
use Rattle.aml_parse.specs.Telling.{separator}
use Rattle.aml_code.specs.Lawful.{last_label, unit_names, plain_name}
use Rattle.aml_code.proofs.Answered.{answered}
use Rattle.aml_parse.proofs.Loops.{onto, then_rest, then_all}

-- ---- loops begin with nothing

module _ {A AS : Type 0} (more : A → AS → AS) where
  pub rest_none : (read : Result (AS × PathSet × List ℕ) CodeFault) → then_rest (λ (x : A). x) more [] read ≡ read
  rest_none (Ok x) = refl
  rest_none (Err e) = refl

  pub all_none : (read : Result (AS × PathSet) CodeFault) → then_all (λ (x : A). x) more [] read ≡ read
  all_none (Ok x) = refl
  all_none (Err e) = refl

-- ---- the pieces of what was found

abbrev same : {A : Type 0} → A → A
same x = x

abbrev pub trees_of : List Tree → Trees
trees_of front = onto same tree_more front no_trees

abbrev pub parts_of : List Part → Parts
parts_of front = onto same part_more front no_parts

-- whether nothing was found so far
abbrev pub is_none : {A : Type 0} → List A → Bool
is_none [] = true
is_none (x ∷ xs) = false

pub some_now : {A : Type 0} (front : List A) (x : A) → false ≡ is_none (front ++ x ∷ [])
some_now [] x = refl
some_now (y ∷ front) x = refl

pub trees_counted : (front : List Tree) → tree_count (trees_of front) ≡ length front
trees_counted [] = refl
trees_counted (t ∷ front) = ap suc (trees_counted front)

pub parts_counted : (front : List Part) → part_count (parts_of front) ≡ length front
parts_counted [] = refl
parts_counted (p ∷ front) = ap suc (parts_counted front)

more_one : (level : ℕ) (front : List Tree) (x : Tree)
    → more_items level (trees_of (front ++ x ∷ [])) ≡ more_items level (trees_of front) ++ (next ∷ pieces level x)
more_one level [] x = ap (λ ps. next ∷ ps) (append-nil (pieces level x))
more_one level (t ∷ front) x =
    ap (λ ps. next ∷ (pieces level t ++ ps)) (more_one level front x)
    ∙ sym (append_assoc (next ∷ pieces level t) (more_items level (trees_of front)) (next ∷ pieces level x))

pub items_one : (level : ℕ) (front : List Tree) (x : Tree)
    → items level (trees_of (front ++ x ∷ [])) ≡ items level (trees_of front) ++ (separator (is_none front) ++ pieces level x)
items_one level [] x = append-nil (pieces level x)
items_one level (t ∷ front) x =
    ap (λ ps. pieces level t ++ ps) (more_one level front x)
    ∙ sym (append_assoc (pieces level t) (more_items level (trees_of front)) (next ∷ pieces level x))

more_part : (level : ℕ) (front : List Part) (x : Part)
    → more_parts level (parts_of (front ++ x ∷ [])) ≡ more_parts level (parts_of front) ++ (next ∷ part_pieces level x)
more_part level [] x = ap (λ ps. next ∷ ps) (append-nil (part_pieces level x))
more_part level (t ∷ front) x =
    ap (λ ps. next ∷ (part_pieces level t ++ ps)) (more_part level front x)
    ∙ sym (append_assoc (next ∷ part_pieces level t) (more_parts level (parts_of front)) (next ∷ part_pieces level x))

pub parts_one : (level : ℕ) (front : List Part) (x : Part)
    → parts_pieces level (parts_of (front ++ x ∷ [])) ≡ parts_pieces level (parts_of front) ++ (separator (is_none front) ++ part_pieces level x)
parts_one level [] x = append-nil (part_pieces level x)
parts_one level (t ∷ front) x =
    ap (λ ps. part_pieces level t ++ ps) (more_part level front x)
    ∙ sym (append_assoc (part_pieces level t) (more_parts level (parts_of front)) (next ∷ part_pieces level x))

-- a line with these pieces
abbrev pub in_line : ℕ → List Told → List Told
in_line level ps = line level ∷ (ps ++ end_of_line ∷ [])

pub lines_told : (level : ℕ) (front : List Tree)
    → flat_map (λ t. in_line level (pieces level t)) front ≡ line_pieces level (trees_of front)
lines_told level [] = refl
lines_told level (t ∷ front) =
    append_assoc (line level ∷ pieces level t) (end_of_line ∷ []) (flat_map (λ t. in_line level (pieces level t)) front)
    ∙ ap (λ ps. line level ∷ (pieces level t ++ end_of_line ∷ ps)) (lines_told level front)

pub fields_told : (level : ℕ) (front : List Field)
    → flat_map (λ u. in_line level (field_pieces level u)) front ≡ fields_pieces level (onto same field_more front no_fields)
fields_told level [] = refl
fields_told level (u ∷ front) =
    append_assoc (line level ∷ field_pieces level u) (end_of_line ∷ []) (flat_map (λ u. in_line level (field_pieces level u)) front)
    ∙ ap (λ ps. line level ∷ (field_pieces level u ++ end_of_line ∷ ps)) (fields_told level front)

abbrev pub Further : {S : Type 0} → (S → S → List Told → Type 0) → Type 0
Further {S = S} grew = (a b c : S) (ps qs : List Told) → grew a b ps → grew b c qs → grew a c (ps ++ qs)

module _ {S : Type 0} (grew : S → S → List Told → Type 0) (further : Further grew) where
  pub grew_one : {X : Type 0} (told : X → List Told) (a b c : S) (front : List X) (x : X)
      → grew a b (flat_map told front) → grew b c (told x) → grew a c (flat_map told (front ++ x ∷ []))
  grew_one told a b c front x h k =
      subst (grew a c) (flat_map_more told [] front x) (further a b c (flat_map told front) (told x) h k)

  pub told_line : (level : ℕ) (a b c d : S) (ps : List Told) → grew a b (line level ∷ []) → grew b c ps → grew c d (end_of_line ∷ [])
      → grew a d (in_line level ps)
  told_line level a b c d ps x y z = further a b d (line level ∷ []) (ps ++ end_of_line ∷ []) x (further b c d ps (end_of_line ∷ []) y z)

  pub told_item : (level : ℕ) (a b c d : S) (first : Bool) (front : List Tree) (t : Tree) → first ≡ is_none front
      → grew a b (items level (trees_of front)) → grew b c (separator first) → grew c d (pieces level t)
      → grew a d (items level (trees_of (front ++ t ∷ [])))
  told_item level a b c d first front t is x y z =
      subst (grew a d) (sym (items_one level front t))
      (further a b d (items level (trees_of front)) (separator (is_none front) ++ pieces level t) x
      (further b c d (separator (is_none front)) (pieces level t) (subst (λ f. grew b c (separator f)) is y) z))

  pub told_part : (level : ℕ) (a b c d : S) (first : Bool) (front : List Part) (p : Part) → first ≡ is_none front
      → grew a b (parts_pieces level (parts_of front)) → grew b c (separator first) → grew c d (part_pieces level p)
      → grew a d (parts_pieces level (parts_of (front ++ p ∷ [])))
  told_part level a b c d first front p is x y z =
      subst (grew a d) (sym (parts_one level front p))
      (further a b d (parts_pieces level (parts_of front)) (separator (is_none front) ++ part_pieces level p) x
      (further b c d (separator (is_none front)) (part_pieces level p) (subst (λ f. grew b c (separator f)) is y) z))

  pub told_call : (level : ℕ) (a b c d : S) (n : Name) (count : ℕ) (ts : Trees) → tree_count ts ≡ count → grew a b (name n count ∷ [])
      → grew b c (items level ts) → grew c d (end_of_call count ∷ []) → grew a d (pieces level (named n ts))
  told_call level a b c d n count ts is x y z =
      let x' = subst (λ k. grew a b (name n k ∷ [])) (sym is) x in
      let z' = subst (λ k. grew c d (end_of_call k ∷ [])) (sym is) z in
      further a b d (name n (tree_count ts) ∷ []) (items level ts ++ end_of_call (tree_count ts) ∷ []) x'
      (further b c d (items level ts) (end_of_call (tree_count ts) ∷ []) y z')

  pub told_op : (level : ℕ) (a b c d e : S) (o : ℕ) (row : Option Row) (n : ℕ) (w : Option PkgWidth) (ps : Parts) (t : Tail) → row_of o ≡ row
      → part_count ps ≡ n → grew a b (opcode o row w n ∷ []) → grew b c (parts_pieces level ps) → grew c d (end_of_parts row n ∷ [])
      → grew d e (tail_pieces level t) → grew a e (pieces level (op o w ps t))
  told_op level a b c d e o row n w ps t is counts x y z v =
      let x' : grew a b (opcode o (row_of o) w (part_count ps) ∷ []) = rw (is, counts) x in
      let z' : grew c d (end_of_parts (row_of o) (part_count ps) ∷ []) = rw (is, counts) z in
      further a b e (opcode o (row_of o) w (part_count ps) ∷ []) (parts_pieces level ps ++ end_of_parts (row_of o) (part_count ps) ∷ tail_pieces level t) x'
      (further b c e (parts_pieces level ps) (end_of_parts (row_of o) (part_count ps) ∷ tail_pieces level t) y
      (further c d e (end_of_parts (row_of o) (part_count ps) ∷ []) (tail_pieces level t) z' v))

  pub told_list : (level : ℕ) (a b c d : S) (k : TailKind) (ps : List Told) → grew a b (list k ∷ []) → grew b c ps
      → grew c d (end_of_list k level ∷ []) → grew a d (list k ∷ (ps ++ end_of_list k level ∷ []))
  told_list level a b c d k ps x y z =
      further a b d (list k ∷ []) (ps ++ end_of_list k level ∷ []) x (further b c d ps (end_of_list k level ∷ []) y z)

  pub told_link : (level : ℕ) (a b c d : S) (t : Tree) → grew a b (link ∷ []) → grew b c (pieces level t) → grew c d (end_of_link ∷ [])
      → grew a d (link_pieces level (buffer t))
  told_link level a b c d t x y z =
      further a b d (link ∷ []) (pieces level t ++ end_of_link ∷ []) x (further b c d (pieces level t) (end_of_link ∷ []) y z)

-- ---- what reading gives, step by step

pub call_is : (arity : Arities) (read : Position → Reader Tree) (p : Position) (end : ℕ) (ls : PathSet) (bytes : List ℕ) (n : Name) (rest : List ℕ) (m : ℕ)
    (ts : Trees) (ls' : PathSet) (behind : List ℕ) → name_at end bytes ≡ Ok (n, rest)
    → ok_or (count_in arity p ls n) (CodeFault.UnknownName (end - length bytes)) ≡ Ok m
    → arguments_at read m end ls rest ≡ Ok (ts, ls', behind) → call_at arity read p end ls bytes ≡ Ok (named n ts, ls', behind)
unfolding call_at
call_is arity read p end ls bytes n rest m ts ls' behind h1 h2 h3 = rw h1 (rw h2 (rw h3 refl))

pub plain_is : (scope : Option (List Seg)) (read : Position → Reader Tree) (row : Row) (end : ℕ) (ls : PathSet) (bytes : List ℕ) (ps : Parts)
    (ls' ls'' : PathSet) (rest : List ℕ) → parts_at read row.parts end ls bytes ≡ Ok (ps, ls', rest)
    → ls'' ≡ with_declared scope ls' (names_declared row.role ps empty)
    → plain_at scope read row end ls bytes ≡ Ok (op row.opcode None ps empty, ls'', rest)
unfolding plain_at
plain_is scope read row end ls bytes ps ls' ls'' rest h1 h2 = rw h1 (ap (λ (l : PathSet). Ok (op row.opcode None ps empty, l, rest)) (sym h2))

pub packed_is : (scope : Option (List Seg)) (read : Position → Reader Tree) (p : Position) (at : ℕ) (row : Row) (k : TailKind) (end : ℕ)
    (ls : PathSet) (bytes : List ℕ) (w : PkgWidth) (inside behind : List ℕ) (guarded : Bool) (ps : Parts) (ls' : PathSet) (rest : List ℕ)
    (t : Tail) (ls'' ls3 : PathSet) → span_at end bytes ≡ Ok (w, inside, behind)
    → guard_at (is_guard p row.place) at (end - length behind) inside ≡ Ok guarded
    → parts_at read row.parts (end - length behind) ls inside ≡ Ok (ps, ls', rest)
    → tail_at read (terms_in p row.place) (tail_in p k) (end - length behind) ls' rest ≡ Ok (t, ls'')
    → ls3 ≡ with_declared scope ls'' (names_declared row.role ps t)
    → packed_at scope read p at row k end ls bytes ≡ Ok (op row.opcode (Some w) ps t, ls3, behind)
unfolding packed_at
packed_is scope read p at row k end ls bytes w inside behind guarded ps ls' rest t ls'' ls3 h1 h2 h3 h4 h5 =
    rw h1 (rw h2 (rw h3 (rw h4 (ap (λ (l : PathSet). Ok (op row.opcode (Some w) ps t, l, behind)) (sym h5)))))

-- ---- a term by its first byte

module _ (arity : Arities) (scope : Option (List Seg)) (p : Position) (end : ℕ) (ls : PathSet) (bs : List ℕ) where
  pub no_lead : (levels : ℕ) (e : CodeFault) → byte_at end bs ≡ Err e → read_at arity scope levels p end ls bs ≡ Err e
  unfolding read_at term_at
  no_lead zero e h = rw h refl
  no_lead (suc levels) e h = rw h refl

  pub name_read : (levels : ℕ) (lead : ℕ × List ℕ) → 0 < levels → byte_at end bs ≡ Ok lead → is_name_lead lead.0 ≡ true → takes_names p ≡ true
      → read_at arity scope levels p end ls bs ≡ call_at arity (read_at arity scope (levels - 1)) p end ls bs
  unfolding read_at term_at
  name_read zero lead some lead_is is takes = absurd (omega (arith, some))
  name_read (suc levels) lead some lead_is is takes =
      let less : suc levels - 1 ≡ levels = omega arith in
      rw less (read_on _ _ _ _ lead_is (rw is (rw takes refl)))

  pub nothing_read : (levels : ℕ) (lead : ℕ × List ℕ) → 0 < levels → byte_at end bs ≡ Ok lead → is_name_lead lead.0 ≡ false
      → is_absent_target p lead.0 ≡ true → read_at arity scope levels p end ls bs ≡ Ok (nothing, ls, lead.1)
  unfolding read_at term_at
  nothing_read zero lead some lead_is other is = absurd (omega (arith, some))
  nothing_read (suc levels) lead some lead_is other is = read_on _ _ _ _ lead_is (rw (other, is) refl)

  pub opcode_fails : (levels : ℕ) (lead : ℕ × List ℕ) (e : CodeFault) → 0 < levels → byte_at end bs ≡ Ok lead → is_name_lead lead.0 ≡ false
      → is_absent_target p lead.0 ≡ false → taken_at p end bs ≡ Err e → read_at arity scope levels p end ls bs ≡ Err e
  unfolding read_at term_at operation_at
  opcode_fails zero lead e some lead_is other inside fault = absurd (omega (arith, some))
  opcode_fails (suc levels) lead e some lead_is other inside fault = read_on _ _ _ _ lead_is (rw (other, inside) (rw fault refl))

  pub opcode_stops : (levels : ℕ) (lead : ℕ × List ℕ) (e : CodeFault) → 0 < levels → byte_at end bs ≡ Ok lead → is_name_lead lead.0 ≡ false
      → is_absent_target p lead.0 ≡ false → Fails e (taken_at p end bs) → Fails e (read_at arity scope levels p end ls bs)
  opcode_stops levels lead e some lead_is other inside (inl none) = inl none
  opcode_stops levels lead e some lead_is other inside (inr fault) = inr (opcode_fails levels lead e some lead_is other inside fault)

-- ---- the row of an opcode that is taken

by_takes : (b : Bool) (row : Row) (f : CodeFault) (left : List ℕ) (x : Row × List ℕ)
    → (if b then Ok (row, left) else Err f) ≡ Ok x → x.0 ≡ row
by_takes true row f left x h = ap (λ (y : Row × List ℕ). y.0) (sym (ok_is _ _ h))
by_takes false row f left x h = absurd cc

by_row : (o : ℕ) (found : Option Row) (e : CodeFault) (T : Row → Bool) (F : Row → CodeFault) (left : List ℕ) (x : Row × List ℕ)
    → row_of o ≡ found → (ok_or found e >>= λ row. if T row then Ok (row, left) else Err (F row)) ≡ Ok x → row_of (x.0).opcode ≡ Some x.0
by_row o (Some row) e T F left x is h =
    let same = by_takes (T row) row (F row) left x h in
    subst (λ (r : Row). row_of r.opcode ≡ Some r) (sym same) (ap row_of (row_opcode o row is) ∙ is)
by_row o None e T F left x is h = absurd cc

by_lead : (read : Result (ℕ × List ℕ) CodeFault) (e : CodeFault) (T : Row → Bool) (F : Row → CodeFault) (x : Row × List ℕ)
    → (read >>= λ o. ok_or (row_of o.0) e >>= λ row. if T row then Ok (row, o.1) else Err (F row)) ≡ Ok x → row_of (x.0).opcode ≡ Some x.0
by_lead (Ok o) e T F x h = by_row o.0 (row_of o.0) e T F o.1 x refl h
by_lead (Err d) e T F x h = absurd cc

pub taken_listed : (p : Position) (end : ℕ) (bs : List ℕ) (row : Row) (rest : List ℕ) → taken_at p end bs ≡ Ok (row, rest) → row_of row.opcode ≡ Some row
unfolding taken_at
taken_listed p end bs row rest h =
    by_lead (opcode_at end bs) (CodeFault.UnknownOp (end - length bs)) (λ r. takes p r.place) (λ r. refusal p r.place (end - length bs)) (row, rest) h

-- ---- the last label, and the units

pub label_one : (found : Option Name) (front : List Part) (p : Part)
    → last_label found (onto (λ (x : Part). x) part_more (front ++ p ∷ []) no_parts)
    ≡ last_label (last_label found (onto (λ (x : Part). x) part_more front no_parts)) (part_more p no_parts)
label_one found [] p = refl
label_one found (label n ∷ front) p = label_one (Some n) front p
label_one found (child t ∷ front) p = label_one found front p
label_one found (byte b ∷ front) p = label_one found front p
label_one found (word b ∷ front) p = label_one found front p
label_one found (dword b ∷ front) p = label_one found front p
label_one found (qword b ∷ front) p = label_one found front p
label_one found (text b ∷ front) p = label_one found front p

pub units_one : (front : List Field) (u : Field)
    → unit_names (onto (λ (x : Field). x) field_more (front ++ u ∷ []) no_fields)
    ≡ unit_names (onto (λ (x : Field). x) field_more front no_fields) ++ unit_names (field_more u no_fields)
units_one [] u = refl
units_one (unit s w n ∷ front) u = ap (λ ns. plain_name s ∷ ns) (units_one front u)
units_one (reserved w n ∷ front) u = units_one front u
units_one (access a b ∷ front) u = units_one front u
units_one (connection l ∷ front) u = units_one front u
units_one (extended a b c ∷ front) u = units_one front u

-- ---- parts and elements without terms

abbrev pub IsFlatField : ℕ → Field → Type 0
IsFlatField level u = field_pieces level u ≡ field u ∷ []

pub held_flat : {B X : Type 0} (P : X → Type 0) (holds : B → X) (r : Result (B × List ℕ) CodeFault) (x : X) (rest : List ℕ)
    → held holds r ≡ Ok (x, rest) → ((y : B) → P (holds y)) → P x
held_flat P holds r x rest h each = answered (λ z. P z.0) r (λ y. (holds y.0, y.1)) (x, rest) h (λ y e. each y.0)

-- ---- connections

abbrev pub IsName : Link → Type 0
IsName l = (level : ℕ) → link_pieces level l ≡ field (connection l) ∷ []

pub link_name : (read : Position → Reader Tree) (end : ℕ) (ls : PathSet) (bs : List ℕ) (lead : ℕ × List ℕ) (l : Link) (rest : List ℕ)
    → byte_at end bs ≡ Ok lead → (lead.0 == 0x11) ≡ false → held target (segmented_at end bs) ≡ Ok (l, rest)
    → (link_at read end ls bs ≡ Ok (l, ls, rest)) × IsName l
unfolding link_at
link_name read end ls bs lead l rest h1 h2 h3 =
    (rw h1 (rw h2 (rw h3 refl)), held_flat IsName target (segmented_at end bs) l rest h3 (λ n level. refl))

pub link_buffer : (read : Position → Reader Tree) (end : ℕ) (ls : PathSet) (bs : List ℕ) (lead : ℕ × List ℕ) (t : Tree) (ls' : PathSet) (rest : List ℕ)
    → byte_at end bs ≡ Ok lead → (lead.0 == 0x11) ≡ true → read Position.Data end ls bs ≡ Ok (t, ls', rest)
    → link_at read end ls bs ≡ Ok (buffer t, ls', rest)
unfolding link_at
link_buffer read end ls bs lead t ls' rest h1 h2 h3 = rw h1 (rw h2 (rw h3 refl))

-- ---- elements of a field list

answered2 : {A B C : Type 0} (P : B → Type 0) (r : Result A CodeFault) (s : A → Result C CodeFault) (f : A → C → B) (y : B)
    → (r >>= λ a. s a >>= λ c. Ok (f a c)) ≡ Ok y → ((a : A) (c : C) → P (f a c)) → P y
answered2 P (Ok a) s f y h k = answered P (s a) (f a) y h (λ c e. k a c)
answered2 P (Err d) s f y h k = absurd cc

answered3 : {A B C D : Type 0} (P : B → Type 0) (r : Result A CodeFault) (s : A → Result C CodeFault) (u : C → Result D CodeFault) (f : A → C → D → B)
    (y : B) → (r >>= λ a. s a >>= λ c. u c >>= λ d. Ok (f a c d)) ≡ Ok y → ((a : A) (c : C) (d : D) → P (f a c d)) → P y
answered3 P (Ok a) s u f y h k = answered2 P (s a) u (f a) y h (k a)
answered3 P (Err d) s u f y h k = absurd cc

abbrev pub IsOneField : Field → Type 0
IsOneField u = (level : ℕ) → IsFlatField level u

abbrev FieldIs : Field × List ℕ → Type 0
FieldIs z = IsOneField z.0

module _ (read : Position → Reader Tree) (end : ℕ) (ls : PathSet) (bs : List ℕ) (n : ℕ) (left : List ℕ) (u : Field) (rest : List ℕ) (lead_is : byte_at end bs ≡ Ok (n, left)) where
  pub reserved_read : n ≡ 0 → reserved_unit end left ≡ Ok (u, rest) → (field_at read end ls bs ≡ Ok (u, ls, rest)) × IsOneField u
  unfolding field_at
  reserved_read is h = (rw lead_is (rw is (rw h refl)), held_flat IsOneField (λ m. reserved m.0 m.1) (length_at end left) u rest h (λ y level. refl))

  pub access_read : n ≡ 1 → access_unit end left ≡ Ok (u, rest) → (field_at read end ls bs ≡ Ok (u, ls, rest)) × IsOneField u
  unfolding field_at access_unit
  access_read is h = (
    rw lead_is (rw is (rw h refl)),
    answered2 FieldIs (byte_at end left) (λ a. byte_at end a.1) (λ a b. (access a.0 b.0, b.1)) (u, rest) h (λ a b level. refl),
  )

  pub extended_read : n ≡ 3 → extended_unit end left ≡ Ok (u, rest) → (field_at read end ls bs ≡ Ok (u, ls, rest)) × IsOneField u
  unfolding field_at extended_unit
  extended_read is h = (
    rw lead_is (rw is (rw h refl)),
    answered3 FieldIs (byte_at end left) (λ a. byte_at end a.1) (λ b. byte_at end b.1) (λ a b c. (extended a.0 b.0 c.0, c.1)) (u, rest) h (λ a b c level. refl),
  )

  pub named_read : (n == 0x00) ≡ false → (n == 0x01) ≡ false → (n == 0x02) ≡ false → (n == 0x03) ≡ false → named_unit end bs ≡ Ok (u, rest)
      → (field_at read end ls bs ≡ Ok (u, ls, rest)) × IsOneField u
  unfolding field_at named_unit
  named_read a b c d h = (
    rw lead_is (rw (a, b, c, d) (rw h refl)),
    answered2 FieldIs (segment_at end bs) (λ g. length_at end g.1) (λ g m. (unit g.0 m.0.0 m.0.1, m.1)) (u, rest) h (λ g m level. refl),
  )

pub connection_read : (read : Position → Reader Tree) (end : ℕ) (ls : PathSet) (bs : List ℕ) (n : ℕ) (left : List ℕ) (l : Link) (ls' : PathSet) (rest : List ℕ)
    → byte_at end bs ≡ Ok (n, left) → n ≡ 2 → link_at read end ls left ≡ Ok (l, ls', rest) → field_at read end ls bs ≡ Ok (connection l, ls', rest)
unfolding field_at
connection_read read end ls bs n left l ls' rest lead_is is h = rw lead_is (rw is (rw h refl))
