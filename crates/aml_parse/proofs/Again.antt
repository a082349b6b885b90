-- A lawful term is read again from its bytes, whatever follows them. Each reader has a law here, beginning with parts
-- and ending with terms, that follows its steps over the bytes of what is lawful: each step reads what is spelled in
-- front (`read_on`), and the next one goes on behind it. The reader of the terms inside is any with that law
-- (`IsReader`).
use Rattle.aml_parse.proofs.Common.{little_again, length_again, ◌≡◌, ℕ, zero, suc, ◌+◌, ◌-◌, ◌≤◌, Bool, true, false}
use Rattle.aml_parse.proofs.Common.{cond, ◌==◌, List, [], ◌∷◌, ◌++◌, length, drop, Option, Some, None, Result, Ok, Err}
use Rattle.aml_parse.proofs.Common.{refl, sym, ap, subst, ◌∙◌, append_assoc, arith, inl, inr, eqb-true, ne_eqb}
use Rattle.aml_parse.proofs.Common.{length-append, append-nil, length-take, length-drop, CodeFault, ok_or, Name}
use Rattle.aml_parse.proofs.Common.{is_lead_char, IsNameSeg, IsName, spelling, is_name_lead, is_bare, PathSet}
use Rattle.aml_parse.proofs.Common.{name_again, name_lead, PkgWidth, PartKind, Position, TailKind, Row, row_of}
use Rattle.aml_parse.proofs.Common.{has_length, takes, width_len, package_bytes, FitsWidth, Tree, nothing, named, op}
use Rattle.aml_parse.proofs.Common.{Trees, no_trees, tree_more, Part, child, label, byte, word, dword, qword, text}
use Rattle.aml_parse.proofs.Common.{Parts, no_parts, part_more, tree_count, Tail, empty, terms, elements, fields, body}
use Rattle.aml_parse.proofs.Common.{Field, unit, reserved, access, connection, extended, Fields, no_fields, field_more}
use Rattle.aml_parse.proofs.Common.{Link, target, buffer, opcode_bytes, packed, slice_of, encoding, encodings}
use Rattle.aml_parse.proofs.Common.{part_encoding, parts_encoding, tail_encoding, field_encoding, fields_encoding}
use Rattle.aml_parse.proofs.Common.{link_encoding, declared_by, after, after_all, after_tail, is_guard, taker_takes}
use Rattle.aml_parse.proofs.Common.{inside_guard, terms_in, tail_in, option_map, next_position, Setting, IsLawful}
use Rattle.aml_parse.proofs.Common.{AreTerms, IsPart, AreParts, IsTail, IsField, AreFields, BodyStands, BodiesStand}
use Rattle.aml_parse.proofs.Common.{TailStands, read_on, is_inner, unchanged, all_unchanged, span_again, row_is_opcode}
use Rattle.aml_parse.proofs.Common.{lead_of, row_apart, target_opcode, opcode_lead}
use Rattle.aml_parse.specs.Reading.{Reader, flat, held, held_inside, part_at, parts_at, arguments_at, terms_at}
use Rattle.aml_parse.specs.Reading.{to_end_at, segmented_at, named_unit, link_at, access_unit, extended_unit, field_at}
use Rattle.aml_parse.specs.Reading.{fields_at, call_at, takes_names, refusal, body_to, tail_at, plain_at, packed_at}
use Rattle.aml_parse.specs.Reading.{row_at, taken_at, operation_at, is_absent_target, term_at}
use Rattle.aml_parse.proofs.FlatLaws.{count_again, text_again, segmented_again, opcode_again, apart, named_unit_again}
use Rattle.aml_parse.proofs.Loops.{turn}
use Rattle.aml_parse.proofs.Leads.{IsGuarded, guarded_so, tail_is_empty, guard_again}
use Rattle.aml_parse.proofs.Took.{IsReader, IsLink, by_opcode, nonempty, field_some, names_taken}
use Rattle.aml_parse.proofs.Bodiless.{is_bodiless, Standing, both_stand, tail_stands}

-- ---- first bytes

-- the first byte of a name isn't that of a Buffer
name_apart : (n : Name) (is : IsName n) → ((name_lead n is).lead == 0x11) ≡ false
name_apart n is =
    let l = name_lead n is in
    ne_eqb l.lead 0x11 (λ e. elim l.kind [
      | inl k ↦ let x : is_name_lead 0x11 ≡ true = subst (λ (c : ℕ). is_name_lead c ≡ true) e k.0 in absurd cc
      | inr k ↦ absurd (omega (arith, e, k.1))
    ])

seg_first : (front rest : List ℕ) → IsNameSeg front
    → (lead : ℕ) × (behind : List ℕ) × (front ++ rest ≡ lead ∷ behind) × (is_lead_char lead ≡ true)
seg_first (a ∷ b ∷ c ∷ d ∷ []) rest h = (a, b ∷ c ∷ d ∷ rest, refl, h.0)
seg_first _ rest h = absurd h

taken_target : (p : Position) (o : ℕ) (row : Row) → row_of o ≡ Some row → takes p row.place ≡ true
    → is_absent_target p (lead_of o) ≡ false
taken_target Position.Target o row listed taken = target_opcode o row listed taken
taken_target _ o row listed taken = refl

abbrev read_as : Tree × PathSet × List ℕ → Result (Tree × PathSet × List ℕ) CodeFault
read_as x = Ok x

-- what a reader does by the first byte, or by the first bytes
module _ (read : Position → Reader Tree) (end : ℕ) (ls : PathSet) (lead : ℕ) (behind : List ℕ) where
  link_named : (lead == 0x11) ≡ false
      → link_at read end ls (lead ∷ behind) ≡ flat ls (held target (segmented_at end (lead ∷ behind)))
  unfolding link_at
  link_named h = rw h refl

  link_led : link_at read end ls (0x11 ∷ behind) ≡ held_inside buffer (read Position.Data end ls (0x11 ∷ behind))
  unfolding link_at
  link_led = refl

  unit_named : is_lead_char lead ≡ true
      → field_at read end ls (lead ∷ behind) ≡ flat ls (named_unit end (lead ∷ behind))
  unfolding field_at
  unit_named h = rw (apart lead 0x00 h refl, apart lead 0x01 h refl, apart lead 0x02 h refl, apart lead 0x03 h refl) refl

module _ (s : Setting) (read : Position → Reader Tree) (p : Position) (end : ℕ) (ls : PathSet) where
  term_name : (lead : ℕ) (behind : List ℕ) → is_name_lead lead ≡ true → takes_names p ≡ true
      → term_at s.arity s.scope read p end ls (lead ∷ behind) ≡ call_at s.arity read p end ls (lead ∷ behind)
  unfolding term_at
  term_name lead behind h taken = rw (h, taken) refl

  term_opcode : (lead : ℕ) (behind : List ℕ) → is_name_lead lead ≡ false → is_absent_target p lead ≡ false
      → term_at s.arity s.scope read p end ls (lead ∷ behind) ≡ operation_at s.scope read p end ls (lead ∷ behind)
  unfolding term_at
  term_opcode lead behind h other = rw (h, other) refl

  none_again : (rest : List ℕ) → p ≡ Position.Target
      → term_at s.arity s.scope read p end ls (0x00 ∷ rest) ≡ Ok (nothing, ls, rest)
  unfolding term_at
  none_again rest h = ap (λ (q : Position). term_at s.arity s.scope read q end ls (0x00 ∷ rest)) h

  -- an opcode that the position takes, with what follows it
  taken_again : (o : ℕ) (row : Row) (rest : List ℕ) → row_of o ≡ Some row → takes p row.place ≡ true
      → taken_at p end (opcode_bytes o ++ rest) ≡ Ok (row, rest)
  unfolding taken_at
  taken_again o row rest listed taken =
      let at = end - length (opcode_bytes o ++ rest) in
      read_on _ _ _ _ (opcode_again end o rest (row_is_opcode o row listed))
      (read_on _ _ _ _ (ap (λ (f : Option Row). ok_or f (CodeFault.UnknownOp at)) listed)
      (ap (λ (b : Bool). cond b (Ok (row, rest)) (Err (refusal p row.place at))) taken))

  reach_row : (o : ℕ) (row : Row) (rest : List ℕ) → row_of o ≡ Some row → takes p row.place ≡ true
      → term_at s.arity s.scope read p end ls (opcode_bytes o ++ rest) ≡ row_at s.scope read p (end - length (opcode_bytes o ++ rest)) row row.tail end ls rest
  unfolding operation_at
  reach_row o row rest listed taken =
      let l = opcode_lead o rest in
      subst (λ (b : List ℕ). term_at s.arity s.scope read p end ls b ≡ operation_at s.scope read p end ls b) (sym l.1)
      (term_opcode (lead_of o) l.0 (row_apart o row listed) (taken_target p o row listed taken))
      ∙ read_on _ _ _ _ (taken_again o row rest listed taken) refl

module _ (s : Setting) (levels : ℕ) (read : Position → Reader Tree) (law : IsReader s levels read) where
  -- ---- parts

  -- a term that is no term of a list
  inner_again : (p : Position) (end : ℕ) (ls : PathSet) (t : Tree) (rest : List ℕ) → is_inner p ≡ true
      → is_bodiless p ≡ true → IsLawful s levels p ls t
      → read p end ls (encoding s.code t ++ rest) ≡ Ok (t, ls, rest)
  inner_again p end ls t rest i free h =
      law.again p end ls t rest h (inl free) ∙ ap (λ (m : PathSet). Ok (t, m, rest)) (unchanged s levels p ls t i h)

  part_again : (k : PartKind) (end : ℕ) (ls : PathSet) (x : Part) (rest : List ℕ)
      → IsPart (λ q. IsLawful s levels q ls) k x
      → part_at read k end ls (part_encoding s.code x ++ rest) ≡ Ok (x, ls, rest)
  part_again PartKind.Term end ls (child t) rest h = read_on _ _ _ _ (inner_again Position.Argument end ls t rest refl refl h) refl
  part_again PartKind.Target end ls (child t) rest h = read_on _ _ _ _ (inner_again Position.Target end ls t rest refl refl h) refl
  part_again PartKind.Data end ls (child t) rest h = read_on _ _ _ _ (inner_again Position.Data end ls t rest refl refl h) refl
  part_again PartKind.Name end ls (label n) rest h = read_on _ _ _ _ (read_on _ _ _ _ (segmented_again end n rest h.0 h.1) refl) refl
  part_again PartKind.ScopeName end ls (label n) rest h = read_on _ _ _ _ (read_on _ _ _ _ (name_again end n rest h) refl) refl
  part_again PartKind.Byte end ls (byte b) rest h = read_on _ _ _ _ (read_on _ _ _ _ (little_again 1 end b rest h) refl) refl
  part_again PartKind.Count end ls (byte b) rest h = read_on _ _ _ _ (count_again end b rest h) refl
  part_again PartKind.Word end ls (word n) rest h = read_on _ _ _ _ (read_on _ _ _ _ (little_again 2 end n rest h) refl) refl
  part_again PartKind.Dword end ls (dword n) rest h = read_on _ _ _ _ (read_on _ _ _ _ (little_again 4 end n rest h) refl) refl
  part_again PartKind.Qword end ls (qword n) rest h = read_on _ _ _ _ (read_on _ _ _ _ (little_again 8 end n rest h) refl) refl
  part_again PartKind.Text end ls (text t) rest h = read_on _ _ _ _ (text_again end t rest h) refl
  part_again _ end ls _ rest h = absurd h

  parts_again : (ks : List PartKind) (end : ℕ) (ls : PathSet) (xs : Parts) (rest : List ℕ)
      → AreParts (λ q. IsLawful s levels q ls) ks xs
      → parts_at read ks end ls (parts_encoding s.code xs ++ rest) ≡ Ok (xs, ls, rest)
  unfolding parts_at
  parts_again [] end ls no_parts rest h = refl
  parts_again (k ∷ ks) end ls (part_more x xs) rest h =
      ap (parts_at read (k ∷ ks) end ls) (append_assoc (part_encoding s.code x) (parts_encoding s.code xs) rest)
      ∙ read_on _ _ _ _ (part_again k end ls x _ h.0) (read_on _ _ _ _ (parts_again ks end ls xs rest h.1) refl)
  parts_again _ end ls _ rest h = absurd h

  -- ---- lists of terms

  arguments_again : (end : ℕ) (ls : PathSet) (ts : Trees) (rest : List ℕ) → AreTerms s levels Position.Argument ls ts
      → arguments_at read (tree_count ts) end ls (encodings s.code ts ++ rest) ≡ Ok (ts, after_all s.scope ls ts, rest)
  unfolding arguments_at
  arguments_again end ls no_trees rest h = refl
  arguments_again end ls (tree_more t ts) rest h =
      ap (arguments_at read (suc (tree_count ts)) end ls) (append_assoc (encoding s.code t) (encodings s.code ts) rest)
      ∙ read_on _ _ _ _ (law.again Position.Argument end ls t _ h.0 (inl refl))
      (read_on _ _ _ _ (arguments_again end (after s.scope ls t) ts rest h.1) refl)

  pub terms_again : (n : ℕ) (p : Position) (end : ℕ) (ls : PathSet) (ts : Trees) → length (encodings s.code ts) ≤ n
      → AreTerms s levels p ls ts
      → Standing (is_bodiless p ≡ true) (λ at. BodiesStand s.code at ts) end (encodings s.code ts)
      → terms_at read n p end ls (encodings s.code ts) ≡ Ok (ts, after_all s.scope ls ts)
  unfolding to_end_at
  terms_again n p end ls no_trees le h stand = refl
  terms_again zero p end ls (tree_more t ts) le h stand =
      absurd (omega (arith, nonempty s levels p ls t h.0, length-append (encoding s.code t) (encodings s.code ts)))
  terms_again (suc n) p end ls (tree_more t ts) le h stand =
      let some = nonempty s levels p ls t h.0 in
      let long = length-append (encoding s.code t) (encodings s.code ts) in
      let both = both_stand s.code p end t ts stand in
      turn no_trees tree_more read next_position n p end ls (encodings s.code (tree_more t ts)) (omega (arith, some, long))
      ∙ read_on _ _ _ _ (law.again p end ls t (encodings s.code ts) h.0 both.0)
      (read_on _ _ _ _ (terms_again n (next_position p t) end (after s.scope ls t) ts (omega (arith, some, long)) h.1 both.1) refl)

  -- ---- field lists

  link_again : (end : ℕ) (ls : PathSet) (l : Link) (rest : List ℕ) → IsLink s levels ls l
      → link_at read end ls (link_encoding s.code l ++ rest) ≡ Ok (l, ls, rest)
  link_again end ls (target n) rest h =
      let l = name_lead n h.0 in
      let spelled : spelling n ++ rest ≡ l.lead ∷ (l.behind ++ rest) = ap (λ (b : List ℕ). b ++ rest) l.text in
      subst (λ (b : List ℕ). link_at read end ls b ≡ flat ls (held target (segmented_at end b))) (sym spelled)
      (link_named read end ls l.lead (l.behind ++ rest) (name_apart n h.0))
      ∙ read_on _ _ _ _ (read_on _ _ _ _ (segmented_again end n rest h.0 h.1) refl) refl
  link_again end ls (buffer nothing) rest h = absurd (cc h.0)
  link_again end ls (buffer (named n ts)) rest h = absurd (cc h.0)
  link_again end ls (buffer (op o w ps t)) rest h =
      let content = packed w (parts_encoding s.code ps ++ tail_encoding s.code t) in
      let spelled : encoding s.code (op o w ps t) ++ rest ≡ 0x11 ∷ (content ++ rest) =
      ap (λ (n : ℕ). (opcode_bytes n ++ content) ++ rest) (eqb-true o 0x11 h.0) in
      subst (λ (b : List ℕ). link_at read end ls b ≡ held_inside buffer (read Position.Data end ls b)) (sym spelled) (link_led read end ls 0 (content ++ rest))
      ∙ read_on _ _ _ _ (inner_again Position.Data end ls (op o w ps t) rest refl refl h.1) refl

  field_again : (end : ℕ) (ls : PathSet) (u : Field) (rest : List ℕ) → IsField (λ q. IsLawful s levels q ls) u
      → field_at read end ls (field_encoding s.code u ++ rest) ≡ Ok (u, ls, rest)
  unfolding field_at access_unit extended_unit
  field_again end ls (unit g w n) rest h =
      let f = seg_first g.0 (package_bytes w n ++ rest) h.0 in
      ap (field_at read end ls) (append_assoc g.0 (package_bytes w n) rest)
      ∙ subst (λ (b : List ℕ). field_at read end ls b ≡ flat ls (named_unit end b)) (sym f.2) (unit_named read end ls f.0 f.1 f.3)
      ∙ read_on _ _ _ _ (named_unit_again end g w n rest h.0 h.1) refl
  field_again end ls (reserved w n) rest h = read_on _ _ _ _ (read_on _ _ _ _ (length_again end w n rest h) refl) refl
  field_again end ls (access a b) rest h = refl
  field_again end ls (connection l) rest h = read_on _ _ _ _ (link_again end ls l rest h) refl
  field_again end ls (extended a b c) rest h = refl

  fields_again : (n end : ℕ) (ls : PathSet) (us : Fields) → length (fields_encoding s.code us) ≤ n
      → AreFields (λ q. IsLawful s levels q ls) us
      → fields_at read n end ls (fields_encoding s.code us) ≡ Ok (us, ls)
  unfolding to_end_at
  fields_again n end ls no_fields le h = refl
  fields_again zero end ls (field_more u us) le h =
      absurd (omega (arith, field_some s levels ls u h.0, length-append (field_encoding s.code u) (fields_encoding s.code us)))
  fields_again (suc n) end ls (field_more u us) le h =
      let some = field_some s levels ls u h.0 in
      let long = length-append (field_encoding s.code u) (fields_encoding s.code us) in
      let all = fields_encoding s.code (field_more u us) in
      turn no_fields field_more (λ (k : Unit {0}). field_at read) (λ k u. k) n tt end ls all (omega (arith, some, long))
      ∙ read_on _ _ _ _ (field_again end ls u (fields_encoding s.code us) h.0)
      (read_on _ _ _ _ (fields_again n end ls us (omega (arith, some, long)) h.1) refl)

  -- ---- names

  named_again : (p : Position) (end : ℕ) (ls : PathSet) (n : Name) (ts : Trees) (rest : List ℕ)
      → IsLawful s (suc levels) p ls (named n ts)
      → term_at s.arity s.scope read p end ls (encoding s.code (named n ts) ++ rest) ≡ Ok (named n ts, ls, rest)
  unfolding call_at
  named_again p end ls n ts rest h =
      let back : List ℕ = encodings s.code ts ++ rest in
      let bs : List ℕ = spelling n ++ back in
      let l = name_lead n h.0 in
      let leads : is_name_lead l.lead ≡ true = elim l.kind [ inl k ↦ k.0 | inr k ↦ absurd (let x : is_bare n ≡ true = k.0 in let y = h.1 in cc) ] in
      let spelled : bs ≡ l.lead ∷ (l.behind ++ back) = ap (λ (b : List ℕ). b ++ back) l.text in
      ap (term_at s.arity s.scope read p end ls) (append_assoc (spelling n) (encodings s.code ts) rest)
      ∙ subst (λ (b : List ℕ). term_at s.arity s.scope read p end ls b ≡ call_at s.arity read p end ls b) (sym spelled)
      (term_name s read p end ls l.lead (l.behind ++ back) leads (names_taken s.arity p ls n (tree_count ts) h.2))
      ∙ read_on _ _ _ _ (name_again end n back h.0) (read_on _ _ _ _ (ap (λ (o : Option ℕ). ok_or o (CodeFault.UnknownName (end - length bs))) h.2)
      (read_on _ _ _ _ (arguments_again end ls ts rest h.3)
      (ap (λ (m : PathSet). Ok (named n ts, m, rest)) (all_unchanged s levels Position.Argument ls ts refl h.3))))

  -- ---- tails

  tail_again : (p : Position) (k : TailKind) (end : ℕ) (ls : PathSet) (t : Tail)
      → IsTail s (IsLawful s levels) p (Some k) ls t
      → Standing ((is_bodiless p ≡ true) × (Some k ≡ Some TailKind.Body → ⊥)) (λ at. TailStands s.code at t) end (tail_encoding s.code t)
      → tail_at read p k end ls (tail_encoding s.code t) ≡ Ok (t, after_tail s.scope ls t)
  tail_again p TailKind.Fields end ls (fields us) h stand =
      read_on _ _ _ _ (fields_again (length (fields_encoding s.code us)) end ls us (omega arith) h) refl
  tail_again p TailKind.Terms end ls (terms ts) h stand =
      read_on _ _ _ _ (terms_again (length (encodings s.code ts)) p end ls ts (omega arith) h (elim stand [ inl k ↦ inl k.0 | inr k ↦ inr k ])) refl
  tail_again p TailKind.Bytes end ls (Tail.bytes bs) h stand = refl
  tail_again p TailKind.Elements end ls (elements ts) h stand =
      read_on _ _ _ _ (terms_again (length (encodings s.code ts)) Position.Data end ls ts (omega arith) h (inl refl))
      (ap (λ (m : PathSet). Ok (elements ts, m)) (all_unchanged s levels Position.Data ls ts refl h))
  tail_again p TailKind.Body end ls (body start len) h (inl free) = absurd (free.1 refl)
  tail_again p TailKind.Body end ls (body start len) h (inr (at, place, stands)) =
      let size : length (slice_of s.code start len) ≡ len = omega (arith, length-take len (drop start s.code), length-drop start s.code, h) in
      let start_is : end - length (slice_of s.code start len) ≡ start = omega (arith, place, stands) in
      let len_is : end - start ≡ len = omega (arith, place, stands, size) in
      ap (λ (n : ℕ). Ok (body_to end n, ls)) start_is ∙ ap (λ (n : ℕ). Ok (body start n, ls)) len_is
  tail_again p _ end ls _ h stand = absurd h

  -- ---- opcodes

  module _ (p : Position) (o : ℕ) (row : Row) (end : ℕ) (ls : PathSet) (ps : Parts) (rest : List ℕ) (listed : row_of o ≡ Some row) where
    plain_again : AreParts (λ q. IsLawful s levels q ls) row.parts ps
        → plain_at s.scope read row end ls (parts_encoding s.code ps ++ rest) ≡ Ok (op o None ps empty, declared_by s.scope (row_of o) ls ps empty, rest)
    unfolding plain_at
    plain_again h = read_on _ _ _ _ (parts_again row.parts end ls ps rest h) (ap read_as (by_opcode s.scope o row listed None ps empty ls rest))

    packed_again : (w : PkgWidth) (k : TailKind) (there : ℕ) (t : Tail) → IsGuarded (is_guard p row.place) ps
        → FitsWidth w (width_len w + length (parts_encoding s.code ps ++ tail_encoding s.code t))
        → AreParts (λ q. IsLawful s levels q ls) row.parts ps
        → IsTail s (IsLawful s levels) (terms_in p row.place) (Some (tail_in p k)) ls t
        → Standing ((is_bodiless (terms_in p row.place) ≡ true) × (Some (tail_in p k) ≡ Some TailKind.Body → ⊥)) (λ at. TailStands s.code at t) (end - length rest)
        (tail_encoding s.code t)
        → packed_at s.scope read p there row k end ls (packed (Some w) (parts_encoding s.code ps ++ tail_encoding s.code t) ++ rest)
        ≡ Ok (op o (Some w) ps t, declared_by s.scope (row_of o) (after_tail s.scope ls t) ps t, rest)
    unfolding packed_at
    packed_again w k there t guarded fits h tail stand =
        let back = tail_encoding s.code t in
        let inside = parts_encoding s.code ps ++ back in
        let inner = end - length rest in
        ap (packed_at s.scope read p there row k end ls) (append_assoc (package_bytes w (width_len w + length inside)) inside rest)
        ∙ read_on _ _ _ _ (span_again end w inside rest fits) (read_on _ _ _ _ (guard_again (is_guard p row.place) there inner s.code ps back guarded)
        (read_on _ _ _ _ (parts_again row.parts inner ls ps back h)
        (read_on _ _ _ _ (tail_again (terms_in p row.place) (tail_in p k) inner ls t tail stand)
        (ap read_as (by_opcode s.scope o row listed (Some w) ps t (after_tail s.scope ls t) rest)))))

  -- by the row's tail
  op_again : (p : Position) (o : ℕ) (w : Option PkgWidth) (end : ℕ) (ls : PathSet) (ps : Parts) (t : Tail) (rest : List ℕ)
      → (h : IsLawful s (suc levels) p ls (op o w ps t)) → (k : Option TailKind) → (h.row).tail ≡ k
      → Standing (is_bodiless p ≡ true) (λ at. BodyStands s.code at (op o w ps t)) end (encoding s.code (op o w ps t) ++ rest)
      → term_at s.arity s.scope read p end ls (encoding s.code (op o w ps t) ++ rest) ≡ Ok (op o w ps t, after s.scope ls (op o w ps t), rest)
  op_again p o None end ls ps t rest h None short stand =
      let row = h.row in
      let front = parts_encoding s.code ps in
      let is_empty : t ≡ empty = tail_is_empty s levels ls p (terms_in p row.place) row.tail t (ap has_length short) h.tail in
      let spelled : opcode_bytes o ++ (front ++ tail_encoding s.code t) ++ rest ≡ opcode_bytes o ++ (front ++ rest) =
      ap (λ (y : Tail). opcode_bytes o ++ (front ++ tail_encoding s.code y) ++ rest) is_empty
      ∙ ap (λ (b : List ℕ). (opcode_bytes o ++ b) ++ rest) (append-nil front) ∙ append_assoc (opcode_bytes o) front rest in
      let there = end - length (opcode_bytes o ++ (front ++ rest)) in
      ap (term_at s.arity s.scope read p end ls) spelled
      ∙ reach_row s read p end ls o row (front ++ rest) h.listed (taker_takes p row.place h.taken)
      ∙ ap (λ (k : Option TailKind). row_at s.scope read p there row k end ls (front ++ rest)) short
      ∙ plain_again p o row end ls ps rest h.listed h.parts
      ∙ ap (λ (y : Tail). Ok (op o None ps y, declared_by s.scope (row_of o) (after_tail s.scope ls y) ps y, rest)) (sym is_empty)
  op_again p o None end ls ps t rest h (Some k) long stand = absurd (rw long at h.width)
  op_again p o (Some w) end ls ps t rest h None short stand = absurd (rw short at h.width)
  op_again p o (Some w) end ls ps t rest h (Some k) long stand =
      let row = h.row in
      let inside = parts_encoding s.code ps ++ tail_encoding s.code t in
      let back = packed (Some w) inside ++ rest in
      let there = end - length (opcode_bytes o ++ back) in
      let taken = taker_takes p row.place h.taken in
      let guarded = guarded_so (is_guard p row.place) ps (λ g. h.guarded (inside_guard p row.place g)) in
      let width : FitsWidth w (width_len w + length inside) = rw long at h.width in
      let tail = subst (λ (k : Option TailKind). IsTail s (IsLawful s levels) (terms_in p row.place) (option_map (tail_in p) k) ls t) long h.tail in
      let Stands : Option TailKind → Type 0 =
      λ k. Standing ((is_bodiless (terms_in p row.place) ≡ true) × (option_map (tail_in p) k ≡ Some TailKind.Body → ⊥)) (λ at. TailStands s.code at t) (end - length rest)
      (tail_encoding s.code t) in
      ap (term_at s.arity s.scope read p end ls) (append_assoc (opcode_bytes o) (packed (Some w) inside) rest)
      ∙ reach_row s read p end ls o row back h.listed taken
      ∙ ap (λ (k : Option TailKind). row_at s.scope read p there row k end ls back) long
      ∙ packed_again p o row end ls ps rest h.listed w k there t guarded width h.parts tail
      (subst Stands long (tail_stands s.code p end o row w ps t rest h.listed taken stand))

  -- ---- terms

  pub term_again : (p : Position) (end : ℕ) (ls : PathSet) (t : Tree) (rest : List ℕ) → IsLawful s (suc levels) p ls t
      → Standing (is_bodiless p ≡ true) (λ at. BodyStands s.code at t) end (encoding s.code t ++ rest)
      → term_at s.arity s.scope read p end ls (encoding s.code t ++ rest) ≡ Ok (t, after s.scope ls t, rest)
  term_again p end ls nothing rest h stand = none_again s read p end ls rest h
  term_again p end ls (named n ts) rest h stand = named_again p end ls n ts rest h
  term_again p end ls (op o w ps t) rest h stand = op_again p o w end ls ps t rest h (h.row).tail refl stand
