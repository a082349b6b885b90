-- The pieces of terms encode to the bytes of these terms.
use Rattle.std.proofs.Common.{◌≡◌, ℕ, ◌+◌, ◌-◌, ◌≤◌, true, cond, nat_le, List, [], ◌∷◌, ◌++◌, length, take, drop, replicate}
use Rattle.std.proofs.Common.{Option, None, Some, refl, sym, ap, subst, ◌∙◌, append_assoc, arith}
use Rattle.std.proofs.lemmas.Bool.Decides.{nat_tests}
use Rattle.std.proofs.lemmas.List.{append-nil, length-append, length-replicate, reverse-append}
use Rattle.aml_names.specs.Names.{spelling}
use Rattle.aml_code.specs.Packages.{width_len, package_bytes}
use Rattle.aml_code.specs.declared.packages.PkgWidth.{PkgWidth}
use Rattle.aml_code.specs.declared.rows.TailKind.{TailKind}
use Rattle.aml_code.specs.Tree.{Tree, nothing, named, op, Trees, no_trees, tree_more, tree_count, Part, child, Parts}
use Rattle.aml_code.specs.Tree.{label, byte, word, dword, qword, text, no_parts, part_more, Tail, empty, terms, bytes}
use Rattle.aml_code.specs.Tree.{elements, fields, body, Field, unit, reserved, access, extended, connection, Fields}
use Rattle.aml_code.specs.Tree.{no_fields, field_more, target, buffer, opcode_bytes, packed, encoding, encodings}
use Rattle.aml_code.specs.Tree.{part_encoding, parts_encoding, tail_encoding, fields_encoding, field_encoding}
use Rattle.aml_code.specs.Pieces.{Told, end_of_line, end_of_call, end_of_parts, end_of_list, end_of_link, pieces, items}
use Rattle.aml_code.specs.Pieces.{more_items, part_pieces, parts_pieces, more_parts, tail_pieces, line_pieces}
use Rattle.aml_code.specs.Pieces.{fields_pieces, field_pieces, deeper, part_count}
use Rattle.aml_code.specs.Opcodes.{row_of}
use Rattle.aml_code.specs.Encoded.{State, Grew, StandsAs, TellsSame, closed, ended, encoded, room, same_bytes, state_of, with_rest}
use Rattle.aml_code.specs.declared.encoder.Encoder.{Encoder}
use Rattle.aml_code.specs.declared.encoder.Open.{Open}
use Rattle.aml_code.proofs.Encodes.{package_written}

-- ---- a package is closed over its parts and its tail

closes : (o : ℕ) (w : Option PkgWidth) (ps t out : List ℕ)
    → closed w (length (out ++ opcode_bytes o)) (((out ++ opcode_bytes o ++ room w) ++ ps) ++ t)
    ≡ Some (out ++ (opcode_bytes o ++ packed w (ps ++ t)))
closes o None ps t out =
    ap Some (append_assoc ((out ++ opcode_bytes o) ++ []) ps t
    ∙ ap (λ (x : List ℕ). x ++ (ps ++ t)) (append-nil (out ++ opcode_bytes o))
    ∙ append_assoc out (opcode_bytes o) (ps ++ t))
closes o (Some w) ps t out =
    let at = length (out ++ opcode_bytes o) in
    let front : List ℕ = out ++ opcode_bytes o ++ replicate (width_len w) 0 in
    let all : List ℕ = (front ++ ps) ++ t in
    let long : length all ≡ (at + width_len w) + length ps + length t =
    length-append (front ++ ps) t ∙ ap (λ n. n + length t) (length-append front ps
    ∙ ap (λ n. n + length ps) (length-append (out ++ opcode_bytes o) (replicate (width_len w) 0)
    ∙ ap (λ n. at + n) (length-replicate (width_len w) 0))) in
    let fits : nat_le (at + width_len w) (length all) ≡ true = grind (arith, nat_tests) in
    ap (λ b. cond b (Some (take at all ++ (package_bytes w (length all - at) ++ drop (at + width_len w) all))) None) fits
    ∙ ap Some (package_written o w ps t out _ _ _ _ _ at refl refl refl refl refl refl
    (opcode_bytes o ++ packed (Some w) (ps ++ t)) refl)

-- ---- what each adds

module _ (code : List ℕ) where
  abbrev at : List Told → List ℕ → List Open → Option State
  at ps out fs = encoded code ps (Some (out, fs))

  then : (qs : List Told) (fs : List Open) (xs ys zs : List ℕ) → at qs ((xs ++ ys) ++ zs) fs ≡ at qs (xs ++ (ys ++ zs)) fs
  then qs fs xs ys zs = ap (λ out. at qs out fs) (append_assoc xs ys zs)

  nothing_more : (qs : List Told) (fs : List Open) (out : List ℕ) → at qs out fs ≡ at qs (out ++ []) fs
  nothing_more qs fs out = ap (λ out. at qs out fs) (sym (append-nil out))

  mutual
    term_encoded : (level : ℕ) (t : Tree) (qs : List Told) (out : List ℕ) (fs : List Open)
        → at (pieces level t ++ qs) out fs ≡ at qs (out ++ encoding code t) fs
    term_encoded level nothing qs out fs = refl
    term_encoded level (named n ts) qs out fs =
        ap (λ xs. at xs (out ++ spelling n) fs) (append_assoc (items level ts) (end_of_call (tree_count ts) ∷ []) qs)
        ∙ items_encoded level ts (end_of_call (tree_count ts) ∷ qs) (out ++ spelling n) fs
        ∙ sym (nothing_more qs fs ((out ++ spelling n) ++ encodings code ts))
        ∙ then qs fs out (spelling n) (encodings code ts)
    term_encoded level (op o w ps t) qs out fs =
        let front : List ℕ = out ++ opcode_bytes o ++ room w in
        let f : Open = record { at = length (out ++ opcode_bytes o); width = w } in
        ap (λ xs. at xs front (f ∷ fs))
        (append_assoc (parts_pieces level ps) (end_of_parts (row_of o) (part_count ps) ∷ tail_pieces level t) qs)
        ∙ parts_encoded level ps (end_of_parts (row_of o) (part_count ps) ∷ (tail_pieces level t ++ qs)) front (f ∷ fs)
        ∙ sym (nothing_more (tail_pieces level t ++ qs) (f ∷ fs) (front ++ parts_encoding code ps))
        ∙ tail_encoded level t qs (front ++ parts_encoding code ps) (f ∷ fs)
        ∙ ap (λ all. encoded code qs (with_rest fs all)) (closes o w (parts_encoding code ps) (tail_encoding code t) out)

    items_encoded : (level : ℕ) (ts : Trees) (qs : List Told) (out : List ℕ) (fs : List Open)
        → at (items level ts ++ qs) out fs ≡ at qs (out ++ encodings code ts) fs
    items_encoded level no_trees qs out fs = nothing_more qs fs out
    items_encoded level (tree_more t ts) qs out fs =
        ap (λ xs. at xs out fs) (append_assoc (pieces level t) (more_items level ts) qs)
        ∙ term_encoded level t (more_items level ts ++ qs) out fs
        ∙ more_items_encoded level ts qs (out ++ encoding code t) fs
        ∙ then qs fs out (encoding code t) (encodings code ts)

    more_items_encoded : (level : ℕ) (ts : Trees) (qs : List Told) (out : List ℕ) (fs : List Open)
        → at (more_items level ts ++ qs) out fs ≡ at qs (out ++ encodings code ts) fs
    more_items_encoded level no_trees qs out fs = nothing_more qs fs out
    more_items_encoded level (tree_more t ts) qs out fs =
        sym (nothing_more ((pieces level t ++ more_items level ts) ++ qs) fs out)
        ∙ ap (λ xs. at xs out fs) (append_assoc (pieces level t) (more_items level ts) qs)
        ∙ term_encoded level t (more_items level ts ++ qs) out fs
        ∙ more_items_encoded level ts qs (out ++ encoding code t) fs
        ∙ then qs fs out (encoding code t) (encodings code ts)

    lines_encoded : (level : ℕ) (ts : Trees) (qs : List Told) (out : List ℕ) (fs : List Open)
        → at (line_pieces level ts ++ qs) out fs ≡ at qs (out ++ encodings code ts) fs
    lines_encoded level no_trees qs out fs = nothing_more qs fs out
    lines_encoded level (tree_more t ts) qs out fs =
        sym (nothing_more ((pieces level t ++ end_of_line ∷ line_pieces level ts) ++ qs) fs out)
        ∙ ap (λ xs. at xs out fs) (append_assoc (pieces level t) (end_of_line ∷ line_pieces level ts) qs)
        ∙ term_encoded level t (end_of_line ∷ (line_pieces level ts ++ qs)) out fs
        ∙ sym (nothing_more (line_pieces level ts ++ qs) fs (out ++ encoding code t))
        ∙ lines_encoded level ts qs (out ++ encoding code t) fs
        ∙ then qs fs out (encoding code t) (encodings code ts)

    part_encoded : (level : ℕ) (p : Part) (qs : List Told) (out : List ℕ) (fs : List Open)
        → at (part_pieces level p ++ qs) out fs ≡ at qs (out ++ part_encoding code p) fs
    part_encoded level (child t) qs out fs = term_encoded level t qs out fs
    part_encoded level (label n) qs out fs = refl
    part_encoded level (byte n) qs out fs = refl
    part_encoded level (word n) qs out fs = refl
    part_encoded level (dword n) qs out fs = refl
    part_encoded level (qword n) qs out fs = refl
    part_encoded level (text s) qs out fs = refl

    parts_encoded : (level : ℕ) (ps : Parts) (qs : List Told) (out : List ℕ) (fs : List Open)
        → at (parts_pieces level ps ++ qs) out fs ≡ at qs (out ++ parts_encoding code ps) fs
    parts_encoded level no_parts qs out fs = nothing_more qs fs out
    parts_encoded level (part_more p ps) qs out fs =
        ap (λ xs. at xs out fs) (append_assoc (part_pieces level p) (more_parts level ps) qs)
        ∙ part_encoded level p (more_parts level ps ++ qs) out fs
        ∙ more_parts_encoded level ps qs (out ++ part_encoding code p) fs
        ∙ then qs fs out (part_encoding code p) (parts_encoding code ps)

    more_parts_encoded : (level : ℕ) (ps : Parts) (qs : List Told) (out : List ℕ) (fs : List Open)
        → at (more_parts level ps ++ qs) out fs ≡ at qs (out ++ parts_encoding code ps) fs
    more_parts_encoded level no_parts qs out fs = nothing_more qs fs out
    more_parts_encoded level (part_more p ps) qs out fs =
        sym (nothing_more ((part_pieces level p ++ more_parts level ps) ++ qs) fs out)
        ∙ ap (λ xs. at xs out fs) (append_assoc (part_pieces level p) (more_parts level ps) qs)
        ∙ part_encoded level p (more_parts level ps ++ qs) out fs
        ∙ more_parts_encoded level ps qs (out ++ part_encoding code p) fs
        ∙ then qs fs out (part_encoding code p) (parts_encoding code ps)

    -- the opcode is ended
    tail_encoded : (level : ℕ) (t : Tail) (qs : List Told) (out : List ℕ) (fs : List Open)
        → at (tail_pieces level t ++ qs) out fs ≡ encoded code qs (ended (out ++ tail_encoding code t) fs)
    tail_encoded level empty qs out fs = refl
    tail_encoded level (bytes bs) qs out fs = refl
    tail_encoded level (body start len) qs out fs = refl
    tail_encoded level (terms ts) qs out fs =
        sym (nothing_more ((line_pieces (deeper level) ts ++ end_of_list TailKind.Terms level ∷ []) ++ qs) fs out)
        ∙ ap (λ xs. at xs out fs) (append_assoc (line_pieces (deeper level) ts) (end_of_list TailKind.Terms level ∷ []) qs)
        ∙ lines_encoded (deeper level) ts (end_of_list TailKind.Terms level ∷ qs) out fs
    tail_encoded level (elements ts) qs out fs =
        sym (nothing_more ((items level ts ++ end_of_list TailKind.Elements level ∷ []) ++ qs) fs out)
        ∙ ap (λ xs. at xs out fs) (append_assoc (items level ts) (end_of_list TailKind.Elements level ∷ []) qs)
        ∙ items_encoded level ts (end_of_list TailKind.Elements level ∷ qs) out fs
    tail_encoded level (fields us) qs out fs =
        sym (nothing_more ((fields_pieces (deeper level) us ++ end_of_list TailKind.Fields level ∷ []) ++ qs) fs out)
        ∙ ap (λ xs. at xs out fs) (append_assoc (fields_pieces (deeper level) us) (end_of_list TailKind.Fields level ∷ []) qs)
        ∙ fields_encoded (deeper level) us (end_of_list TailKind.Fields level ∷ qs) out fs

    fields_encoded : (level : ℕ) (us : Fields) (qs : List Told) (out : List ℕ) (fs : List Open)
        → at (fields_pieces level us ++ qs) out fs ≡ at qs (out ++ fields_encoding code us) fs
    fields_encoded level no_fields qs out fs = nothing_more qs fs out
    fields_encoded level (field_more u us) qs out fs =
        sym (nothing_more ((field_pieces level u ++ end_of_line ∷ fields_pieces level us) ++ qs) fs out)
        ∙ ap (λ xs. at xs out fs) (append_assoc (field_pieces level u) (end_of_line ∷ fields_pieces level us) qs)
        ∙ field_encoded level u (end_of_line ∷ (fields_pieces level us ++ qs)) out fs
        ∙ sym (nothing_more (fields_pieces level us ++ qs) fs (out ++ field_encoding code u))
        ∙ fields_encoded level us qs (out ++ field_encoding code u) fs
        ∙ then qs fs out (field_encoding code u) (fields_encoding code us)

    field_encoded : (level : ℕ) (u : Field) (qs : List Told) (out : List ℕ) (fs : List Open)
        → at (field_pieces level u ++ qs) out fs ≡ at qs (out ++ field_encoding code u) fs
    field_encoded level (unit s w n) qs out fs = refl
    field_encoded level (reserved w n) qs out fs = refl
    field_encoded level (access a b) qs out fs = refl
    field_encoded level (extended a b c) qs out fs = refl
    field_encoded level (connection (target n)) qs out fs = refl
    field_encoded level (connection (buffer t)) qs out fs =
        ap (λ xs. at xs (out ++ 0x02 ∷ []) fs) (append_assoc (pieces level t) (end_of_link ∷ []) qs)
        ∙ term_encoded level t (end_of_link ∷ qs) (out ++ 0x02 ∷ []) fs
        ∙ sym (nothing_more qs fs ((out ++ 0x02 ∷ []) ++ encoding code t))
        ∙ then qs fs out (0x02 ∷ []) (encoding code t)

-- ---- by an encoder that was told nothing before

pub same_told : (code : List ℕ) (ps : List Told) (a b : Encoder) → a.code.now ≡ code → state_of a ≡ ([], [])
    → Grew a b ps
    → (same : _) → same ≡ same_bytes (state_of b).0 b.code.now → TellsSame code ps same
same_told code ps a b of_code new grew same is = λ level ts are.
    let whole : encoded code ps (Some ([], [])) ≡ Some (encodings code ts, []) =
    ap (λ xs. encoded code xs (Some ([], []))) (are ∙ sym (append-nil (line_pieces level ts)))
    ∙ lines_encoded code level ts [] [] [] in
    let stands : StandsAs b (Some (encodings code ts, [])) =
    subst (StandsAs b) whole (subst (λ (s : State). StandsAs b (encoded code ps (Some s))) new
    (subst (λ (bs : List ℕ). StandsAs b (encoded bs ps (Some (state_of a)))) of_code grew.1)) in
    is ∙ (λ i. same_bytes (stands i).0 ((grew.0 ∙ of_code) i))

pub ruleset told_bytes = (append-nil, append_assoc, reverse-append)
