-- What is read is a lawful term, spelled by the bytes that were taken, and the paths declared then are those of the
-- definitions; and each fault is true of the code at its offset. Each reader has a law here, beginning with parts and
-- ending with terms, that follows its steps (`then`): what a step took stands in front of what the next one takes. The
-- reader of the terms inside is any with that law (`IsReader`).
use Rattle.aml_parse.proofs.Common.{op, CodeFault, get_or_default, ◌≡◌, ◌≢◌, ℕ, zero, suc, ◌+◌, ◌-◌, ◌≤◌, Bool, true}
use Rattle.aml_parse.proofs.Common.{false, eqb, List, [], ◌∷◌, ◌++◌, length, Option, Some, None, refl, sym, ap, ◌<◌}
use Rattle.aml_parse.proofs.Common.{subst, ◌∙◌, arith, inl, inr, All, eqb-true, append-nil, Name, spelling}
use Rattle.aml_parse.proofs.Common.{is_name_lead, PathSet, Left, lead_reads, IsBytes, Takes, Takes-none, Takes-then}
use Rattle.aml_parse.proofs.Common.{PartKind, Place, Position, TailKind, Row, row_of, has_length, takes, width_len}
use Rattle.aml_parse.proofs.Common.{package_bytes, FitsWidth, Tree, connection, child, label, byte, word, dword, qword}
use Rattle.aml_parse.proofs.Common.{empty, target, buffer, opcode_bytes, slice_of, encoding, parts_encoding}
use Rattle.aml_parse.proofs.Common.{tail_encoding, field_encoding, link_encoding, declared_by, HasWidth, count_in}
use Rattle.aml_parse.proofs.Common.{is_guard, terms_in, tail_in, option_map, next_position, Setting, IsLawful, AreParts}
use Rattle.aml_parse.proofs.Common.{IsTail, TailStands, Arities, StandsThere, IsOpcode, StandsAt, is_inner, unchanged}
use Rattle.aml_parse.proofs.Common.{all_unchanged, is_if_place, if_parts, if_has_length, guard_place, guard_inside}
use Rattle.aml_parse.proofs.Common.{takes_taker, front_length, opcode_some, Within, onward, inward, text_there}
use Rattle.aml_parse.proofs.Common.{byte_there, slice_there, span_inside, end_there, offset_is}
use Rattle.aml_parse.specs.Reading.{Reader, part_at, parts_at, arguments_at, terms_at, to_end_at, flat, held_inside}
use Rattle.aml_parse.specs.Reading.{link_at, field_at, fields_at, call_at, refused_in_body, refused_in_run, refusal}
use Rattle.aml_parse.specs.Reading.{guard_at, tail_at, takes_names, plain_at, packed_at, row_at, taken_at, operation_at}
use Rattle.aml_parse.specs.Reading.{is_absent_target, term_at}
use Rattle.aml_parse.proofs.FlatReads.{Answers, answers, fails, then, made, chosen, known, at_offset, TookFlat}
use Rattle.aml_parse.proofs.FlatReads.{byte_reads, little_reads, span_reads, name_reads, segmented_reads, opcode_reads}
use Rattle.aml_parse.proofs.FlatReads.{held_reads, count_reads, text_reads, behind_lead, named_unit_reads}
use Rattle.aml_parse.proofs.FlatReads.{reserved_reads, access_reads, extended_reads}
use Rattle.aml_parse.proofs.Leads.{IsGuarded, led_by, guard_holds}
use Rattle.aml_parse.proofs.Took.{Reads, Took, TookTerm, TookArguments, TookTerms, TookFields, TookTail, TookPart}
use Rattle.aml_parse.proofs.Took.{TookParts, TookLink, TookField, IsLink, IsReader, by_opcode, name_some}

-- ---- what holds no terms

are_bytes : (bs : List ℕ) → IsBytes bs → All (λ b. b < 256) bs
are_bytes bs fits k d less = subst (λ (n : ℕ). n < 256) (get_or_default bs k 0 d less) (fits k)

asked_none : (arity : Arities) (p : Position) (ls : PathSet) (n : Name) → takes_names p ≡ true
    → count_in arity p ls n ≡ None → arity ls n ≡ None
asked_none arity Position.RunTerm ls n h e = e
asked_none arity Position.RunAfterIf ls n h e = e
asked_none arity Position.BodyTerm ls n h e = e
asked_none arity Position.AfterIf ls n h e = e
asked_none arity Position.Argument ls n h e = e
asked_none arity _ ls n h e = absurd cc

-- what has no package length is no guard
unguarded : (o : ℕ) (row : Row) (p : Position) → row_of o ≡ Some row → has_length row.tail ≡ false
    → terms_in p row.place ≡ Position.GuardTerm → ⊥
unguarded o row p listed short g =
    let long = if_has_length o row listed (guard_place p row.place (guard_inside p row.place g)) in absurd (cc (long, short))

is_target : (p : Position) (lead : ℕ) → is_absent_target p lead ≡ true → (p ≡ Position.Target) × (lead ≡ 0)
is_target Position.Target lead h = (refl, eqb-true lead 0 h)
is_target _ lead h = absurd cc

-- an opcode that stands at an offset, and has a row
record HasFound (code : List ℕ) (at o : ℕ) (row : Row) : Type 0 where
  pub is : IsOpcode o
  pub there : StandsThere code at (opcode_bytes o)
  pub listed : row_of o ≡ Some row

not_external : (p : Position) (place : Place) → takes p place ≡ false → takes p Place.External ≡ true
    → place ≢ Place.External
not_external p place not_taken taken = λ e. absurd (cc (not_taken, taken, ap (takes p) e))

-- an opcode that the position takes: its number, the bytes behind it, and its row
abbrev TookRow : List ℕ → Position → ℕ → List ℕ → Row × List ℕ → Type 0
TookRow code p at bs r = (o : ℕ) × (Takes bs (opcode_bytes o) r.1 × (HasFound code at o r.0 × (takes p (r.0).place ≡ true)))

module _ (arity : Arities) (code : List ℕ) (at o : ℕ) (row : Row) (f : HasFound code at o row) where
  in_body_placed : (place : Place) → row.place ≡ place → StandsAt arity code (refused_in_body place at)
  in_body_placed Place.Method e = (o, f.is, f.there, (row, f.listed, e))
  in_body_placed Place.Scope e = (o, f.is, f.there, (row, f.listed, e))
  in_body_placed Place.Else e = (o, f.is, f.there, (row, f.listed, e))
  in_body_placed _ e = (o, f.is, f.there, (row, f.listed, tt))

  in_run_placed : (place : Place) → row.place ≡ place → row.place ≢ Place.External
      → StandsAt arity code (refused_in_run place at)
  in_run_placed Place.Else e other = (o, f.is, f.there, (row, f.listed, e))
  in_run_placed _ e other = inr (o, f.is, f.there, (row, f.listed, other))

  refusal_placed : (p : Position) → takes p row.place ≡ false → StandsAt arity code (refusal p row.place at)
  refusal_placed Position.ModuleTerm other = inr (o, f.is, f.there, (row, f.listed, not_external Position.ModuleTerm row.place other refl))
  refusal_placed Position.GuardTerm other = inr (o, f.is, f.there, (row, f.listed, not_external Position.GuardTerm row.place other refl))
  refusal_placed Position.RunTerm other = in_run_placed row.place refl (not_external Position.RunTerm row.place other refl)
  refusal_placed Position.RunAfterIf other = in_run_placed row.place refl (not_external Position.RunAfterIf row.place other refl)
  refusal_placed Position.BodyTerm other = in_body_placed row.place refl
  refusal_placed Position.AfterIf other = in_body_placed row.place refl
  refusal_placed _ other = (o, f.is, f.there, (row, f.listed, tt))

module _ (s : Setting) (levels : ℕ) (read : Position → Reader Tree) (law : IsReader s levels read) where
  -- ---- parts

  -- what holds no terms declares nothing
  flat_reads : {A : Type 0} (spelled : A → List ℕ) (Is : A → Type 0) (step : Left A) (ls : PathSet) (bs : List ℕ)
      → Answers s (TookFlat spelled Is bs) step
      → Answers s (Took spelled Is (λ x. ls) bs) (flat ls step)
  flat_reads spelled Is step ls bs h = made s _ _ _ _ h (λ y a. record { takes = a.takes; is = a.is; behind_is = refl })

  -- a term that is no term of a list
  inner_reads : {A : Type 0} (make : Tree → A) (spelled : A → List ℕ) (Is : A → Type 0) (p : Position) (at end : ℕ) (ls : PathSet) (bs : List ℕ)
      → is_inner p ≡ true → Within s.code at end bs → 512 ≤ levels + at
      → ((t : Tree) → spelled (make t) ≡ encoding s.code t)
      → ((t : Tree) (rest : List ℕ) → IsLawful s levels p ls t → bs ≡ encoding s.code t ++ rest → Is (make t))
      → Answers s (Took spelled Is (λ x. ls) bs) (held_inside make (read p end ls bs))
  inner_reads make spelled Is p at end ls bs i w deep so is = made s _ _ _ _ (law.reads p at end ls bs w deep) (λ t a. record {
    takes = subst (λ (r : List ℕ). Takes bs r t.2) (sym (so t.0)) a.takes;
    is = is t.0 t.2 a.is.0 a.takes.parts;
    behind_is = a.behind_is ∙ unchanged s levels p ls t.0 i a.is.0;
  })

  part_reads : (k : PartKind) → Reads s levels (λ at. TookPart s levels k) (part_at read k)
  part_reads PartKind.Term at end ls bs w deep = inner_reads child _ _ Position.Argument at end ls bs refl w deep (λ t. refl) (λ t rest h l. h)
  part_reads PartKind.Target at end ls bs w deep = inner_reads child _ _ Position.Target at end ls bs refl w deep (λ t. refl) (λ t rest h l. h)
  part_reads PartKind.Data at end ls bs w deep = inner_reads child _ _ Position.Data at end ls bs refl w deep (λ t. refl) (λ t rest h l. h)
  part_reads PartKind.Name at end ls bs w deep =
      flat_reads _ _ _ ls bs (held_reads s _ _ _ _ label bs _ (segmented_reads s at end bs w) (λ n. refl) (λ n h. h))
  part_reads PartKind.ScopeName at end ls bs w deep = flat_reads _ _ _ ls bs (held_reads s _ _ _ _ label bs _ (name_reads s at end bs w) (λ n. refl) (λ n h. h))
  part_reads PartKind.Byte at end ls bs w deep = flat_reads _ _ _ ls bs (held_reads s _ _ _ _ byte bs _ (little_reads s at end bs w 1) (λ n. refl) (λ n h. h))
  part_reads PartKind.Count at end ls bs w deep = flat_reads _ _ _ ls bs (count_reads s _ at end bs w (λ n h. h))
  part_reads PartKind.Word at end ls bs w deep = flat_reads _ _ _ ls bs (held_reads s _ _ _ _ word bs _ (little_reads s at end bs w 2) (λ n. refl) (λ n h. h))
  part_reads PartKind.Dword at end ls bs w deep = flat_reads _ _ _ ls bs (held_reads s _ _ _ _ dword bs _ (little_reads s at end bs w 4) (λ n. refl) (λ n h. h))
  part_reads PartKind.Qword at end ls bs w deep = flat_reads _ _ _ ls bs (held_reads s _ _ _ _ qword bs _ (little_reads s at end bs w 8) (λ n. refl) (λ n h. h))
  part_reads PartKind.Text at end ls bs w deep = flat_reads _ _ _ ls bs (text_reads s _ at end bs w (λ t h. h))

  parts_reads : (ks : List PartKind) → Reads s levels (λ at. TookParts s levels ks) (parts_at read ks)
  unfolding parts_at
  parts_reads [] at end ls bs w deep = answers s _ _ (record { takes = Takes-none bs w.fits; is = tt; behind_is = refl })
  parts_reads (k ∷ ks) at end ls bs w deep = then s _ _ _ _ (part_reads k at end ls bs w deep) (λ first e a.
      made s _ _ _ _ (parts_reads ks _ end first.1 first.2 (onward _ _ _ _ _ _ w a.takes) (omega (arith, deep))) (λ others b. record {
        takes = Takes-then _ _ _ _ _ a.takes b.takes;
        is = (a.is, subst (λ (m : PathSet). AreParts (λ q. IsLawful s levels q m) ks others.0) a.behind_is b.is);
        behind_is = b.behind_is ∙ a.behind_is;
      }))

  -- ---- lists of terms

  arguments_reads : (n : ℕ) → Reads s levels (λ at. TookArguments s levels n) (arguments_at read n)
  unfolding arguments_at
  arguments_reads zero at end ls bs w deep = answers s _ _ (record { takes = Takes-none bs w.fits; is = (tt, refl); behind_is = refl })
  arguments_reads (suc n) at end ls bs w deep = then s _ _ _ _ (law.reads Position.Argument at end ls bs w deep) (λ first e a.
      made s _ _ _ _ (arguments_reads n _ end first.1 first.2 (onward _ _ _ _ _ _ w a.takes) (omega (arith, deep))) (λ others found.
      let b = subst (λ (m : PathSet). TookArguments s levels n m first.2 others) a.behind_is found in
      record { takes = Takes-then _ _ _ _ _ a.takes b.takes; is = ((a.is.0, b.is.0), ap suc b.is.1); behind_is = b.behind_is }))

  pub terms_reads : (n : ℕ) (p : Position) → Reads s levels (TookTerms s levels p) (terms_at read n p)
  unfolding to_end_at
  terms_reads n p at end ls [] w deep = answers s _ _ (record { text = refl; is = (tt, tt); behind_is = refl })
  terms_reads zero p at end ls (b ∷ bs) w deep = fails s _ (CodeFault.Truncated end) (end_there s.code at end (b ∷ bs) w)
  terms_reads (suc n) p at end ls (b ∷ bs) w deep = then s _ _ _ _ (law.reads p at end ls (b ∷ bs) w deep) (λ first e a.
      let q = next_position p first.0 in
      let at1 = at + length (encoding s.code first.0) in
      made s _ _ _ _ (terms_reads n q at1 end first.1 first.2 (onward _ _ _ _ _ _ w a.takes) (omega (arith, deep))) (λ others found.
      let c = subst (λ (m : PathSet). TookTerms s levels q at1 m first.2 others) a.behind_is found in record {
        text = a.takes.parts ∙ ap (λ (r : List ℕ). encoding s.code first.0 ++ r) c.text;
        is = ((a.is.0, c.is.0), (a.is.1, c.is.1));
        behind_is = c.behind_is;
      }))

  -- ---- field lists

  link_reads : Reads s levels (λ at. TookLink s levels) (link_at read)
  unfolding link_at
  link_reads at end ls bs w deep = then s _ _ _ _ (byte_reads s at end bs w) (λ lead e l. chosen s _ (eqb lead.0 0x11) _ _
      (λ g. inner_reads buffer (link_encoding s.code) (IsLink s levels ls) Position.Data at end ls bs refl w deep (λ t. refl) (λ t rest h spelled.
      let first : encoding s.code t ++ rest ≡ 0x11 ∷ lead.1 = sym spelled ∙ l.takes.parts ∙ ap (λ (n : ℕ). n ∷ lead.1) (eqb-true lead.0 0x11 g) in
      (led_by s levels Position.Data ls t rest 0x11 lead.1 h (λ z. absurd cc) first refl (omega arith), h)))
      (λ g. flat_reads (link_encoding s.code) (IsLink s levels ls) _ ls bs
      (held_reads s _ _ _ _ target bs _ (segmented_reads s at end bs w) (λ n. refl) (λ n h. h))))

  connection_reads : Reads s levels (λ at ls bs. TookField s levels ls (0x02 ∷ bs)) (λ end ls bs. held_inside connection (link_at read end ls bs))
  connection_reads at end ls bs w deep = made s _ _ _ _ (link_reads at end ls bs w deep) (λ l a.
      record { takes = behind_lead 0x02 _ _ _ a.takes; is = a.is; behind_is = a.behind_is })

  field_reads : Reads s levels (λ at. TookField s levels) (field_at read)
  unfolding field_at
  field_reads at end ls [] w deep = fails s _ (CodeFault.Truncated end) (end_there s.code at end [] w)
  field_reads at end ls (lead ∷ bs) w deep =
      let whole : List ℕ = lead ∷ bs in
      let first : Takes whole (lead ∷ []) bs = record { parts = refl; rest_fits = λ i. w.fits (suc i) } in
      let w1 : Within s.code (at + 1) end bs = onward s.code at end whole (lead ∷ []) bs w first in
      let led : (b : ℕ) (r : _) → eqb lead b ≡ true → Answers s (TookField s levels ls (b ∷ bs)) r → Answers s (TookField s levels ls whole) r =
      λ b r g h. subst (λ (c : ℕ). Answers s (TookField s levels ls (c ∷ bs)) r) (sym (eqb-true lead b g)) h in
      chosen s _ (eqb lead 0x00) _ _ (λ g. led 0x00 _ g (flat_reads _ _ _ ls (0x00 ∷ bs) (reserved_reads s levels ls (at + 1) end bs w1))) (λ g0.
      chosen s _ (eqb lead 0x01) _ _ (λ g. led 0x01 _ g (flat_reads _ _ _ ls (0x01 ∷ bs) (access_reads s levels ls (at + 1) end bs w1))) (λ g1.
      chosen s _ (eqb lead 0x02) _ _ (λ g. led 0x02 _ g (connection_reads (at + 1) end ls bs w1 (omega (arith, deep)))) (λ g2.
      chosen s _ (eqb lead 0x03) _ _ (λ g. led 0x03 _ g (flat_reads _ _ _ ls (0x03 ∷ bs) (extended_reads s levels ls (at + 1) end bs w1))) (λ g3.
      flat_reads _ _ _ ls whole (named_unit_reads s levels ls at end whole w)))))

  fields_reads : (n : ℕ) → Reads s levels (λ at. TookFields s levels) (fields_at read n)
  unfolding to_end_at
  fields_reads n at end ls [] w deep = answers s _ _ (record { text = refl; is = tt; behind_is = refl })
  fields_reads zero at end ls (b ∷ bs) w deep = fails s _ (CodeFault.Truncated end) (end_there s.code at end (b ∷ bs) w)
  fields_reads (suc n) at end ls (b ∷ bs) w deep = then s _ _ _ _ (field_reads at end ls (b ∷ bs) w deep) (λ first e a.
      made s _ _ _ _ (fields_reads n _ end first.1 first.2 (onward _ _ _ _ _ _ w a.takes) (omega (arith, deep))) (λ others found.
      let c = subst (λ (m : PathSet). TookFields s levels m first.2 others) a.behind_is found in
      record { text = a.takes.parts ∙ ap (λ (r : List ℕ). field_encoding s.code first.0 ++ r) c.text; is = (a.is, c.is); behind_is = c.behind_is }))

  -- ---- names

  call_reads : (p : Position) → takes_names p ≡ true → (at end : ℕ) (ls : PathSet) (lead : ℕ) (behind : List ℕ)
      → Within s.code at end (lead ∷ behind)
      → 512 ≤ suc levels + at → is_name_lead lead ≡ true
      → Answers s (TookTerm s (suc levels) p at ls (lead ∷ behind)) (call_at s.arity read p end ls (lead ∷ behind))
  unfolding call_at
  call_reads p inner at end ls lead behind w deep is_lead = then s _ _ _ _ (name_reads s at end (lead ∷ behind) w) (λ name h1 a.
      let there = text_there s.code at end (lead ∷ behind) (spelling name.0) name.1 w a.takes.parts in
      then s _ _ _ _ (known s (λ m. count_in s.arity p ls name.0 ≡ Some m) (count_in s.arity p ls name.0) (CodeFault.UnknownName (end - length (lead ∷ behind)))
      (λ none. at_offset s at end (lead ∷ behind) w (λ i. CodeFault.UnknownName i) (name.0, a.is, there, (ls, asked_none s.arity p ls name.0 inner none)))
      (λ m count. count)) (λ n h2 count.
      let w1 = onward _ _ _ _ _ _ w a.takes in
      made s _ _ _ _ (arguments_reads n _ end ls name.1 w1 (omega (arith, deep, name_some name.0 a.is))) (λ args b. record {
        takes = Takes-then _ _ _ _ _ a.takes b.takes;
        is =
            ((a.is, lead_reads end lead behind name.0 name.1 w.fits is_lead h1, count ∙ ap (λ (i : ℕ). Some i) (sym b.is.1), b.is.0), tt);
        behind_is = b.behind_is ∙ all_unchanged s levels Position.Argument ls args.0 refl b.is.0;
      })))

  -- ---- tails

  tail_reads : (p : Position) (k : TailKind) → Reads s levels (TookTail s levels p k) (tail_at read p k)
  tail_reads p TailKind.Terms at end ls bs w deep = made s _ _ _ _ (terms_reads (length bs) p at end ls bs w deep) (λ ts a.
      record { text = a.text; is = a.is; behind_is = a.behind_is })
  tail_reads p TailKind.Bytes at end ls bs w deep = answers s _ _ (record { text = refl; is = (are_bytes bs w.fits, tt); behind_is = refl })
  tail_reads p TailKind.Elements at end ls bs w deep = made s _ _ _ _ (terms_reads (length bs) Position.Data at end ls bs w deep) (λ ts a.
      record { text = a.text; is = (a.is.0, tt); behind_is = a.behind_is ∙ all_unchanged s levels Position.Data ls ts.0 refl a.is.0 })
  tail_reads p TailKind.Fields at end ls bs w deep = made s _ _ _ _ (fields_reads (length bs) at end ls bs w deep) (λ us a.
      record { text = a.text; is = (a.is, tt); behind_is = a.behind_is })
  tail_reads p TailKind.Body at end ls bs w deep =
      let start_is : end - length bs ≡ at = offset_is s.code at end bs w in
      let len_is : end - (end - length bs) ≡ length bs = omega (arith, w.place) in
      let text : bs ≡ slice_of s.code (end - length bs) (end - (end - length bs)) = rw (len_is, start_is) (sym (slice_there s.code at end bs w)) in
      let inside : (end - length bs) + (end - (end - length bs)) ≤ length s.code = omega (arith, w.place, span_inside s.code at end bs w) in
      answers s _ _ (record { text = text; is = (inside, start_is); behind_is = refl })

  -- ---- opcodes, behind which stand the bytes `inside`

  module _ (p : Position) (o : ℕ) (row : Row) (at end : ℕ) (ls : PathSet) (bs inside : List ℕ) (w : Within s.code at end bs) (deep : 512 ≤ suc levels + at)
      (t0 : Takes bs (opcode_bytes o) inside) (found : HasFound s.code at o row) (taken : takes p row.place ≡ true) where
    plain_reads : row.tail ≡ None
        → Answers s (TookTerm s (suc levels) p at ls bs) (plain_at s.scope read row end ls inside)
    unfolding plain_at
    plain_reads short =
        made s _ _ _ _ (parts_reads row.parts _ end ls inside (onward _ _ _ _ _ _ w t0) (omega (arith, deep, opcode_some o))) (λ ps b.
        let lawful : IsLawful s (suc levels) p ls (op o None ps.0 empty) = record {
          row = row;
          listed = found.listed;
          taken = takes_taker p row.place taken;
          width = subst (λ (k : Option TailKind). HasWidth k None (length (parts_encoding s.code ps.0 ++ []))) (sym short) tt;
          guarded = λ g. absurd (unguarded o row p found.listed (ap has_length short) g);
          parts = b.is;
          tail = subst (λ (k : Option TailKind). IsTail s (IsLawful s levels) (terms_in p row.place) (option_map (tail_in p) k) ls empty) (sym short) tt;
        } in
        subst (TookTerm s (suc levels) p at ls bs) (sym (by_opcode s.scope o row found.listed None ps.0 empty ps.1 ps.2)) (record {
          takes = subst (λ (r : List ℕ). Takes bs (opcode_bytes o ++ r) ps.2) (sym (append-nil (parts_encoding s.code ps.0))) (Takes-then _ _ _ _ _ t0 b.takes);
          is = (lawful, tt);
          behind_is = ap (λ (m : PathSet). declared_by s.scope (row_of o) m ps.0 empty) b.behind_is;
        }))

    -- a guard begins with 00; an If that is no guard is code of a table
    guard_reads : (guarded : Bool) → is_guard p row.place ≡ guarded → (at2 inner : ℕ) (span : List ℕ)
        → Within s.code at2 inner span
        → Answers s (λ g. guarded ≡ true → (behind : List ℕ) × (span ≡ 0x00 ∷ behind)) (guard_at guarded at inner span)
    guard_reads false is at2 inner span w2 = answers s _ false (λ h. absurd cc)
    guard_reads true is at2 inner span w2 = then s _ _ _ _ (byte_reads s at2 inner span w2) (λ first e t. chosen s _ (eqb first.0 0x00) _ _
        (λ nought. answers s _ true (λ h. (first.1, t.takes.parts ∙ ap (λ (n : ℕ). n ∷ first.1) (eqb-true first.0 0x00 nought))))
        (λ other. fails s _ (CodeFault.ModuleCode at)
        (inr (o, found.is, found.there, (row, found.listed, λ z. absurd (cc (guard_place p row.place is, ap is_if_place z)))))))

    packed_reads : (k : TailKind) → row.tail ≡ Some k
        → Answers s (TookTerm s (suc levels) p at ls bs) (packed_at s.scope read p at row k end ls inside)
    unfolding packed_at
    packed_reads k long = then s _ _ _ _ (span_reads s _ end inside (onward _ _ _ _ _ _ w t0)) (λ span h1 sp.
        let at2 = at + length (opcode_bytes o) + width_len span.0 in
        let w2 = inward s.code (at + length (opcode_bytes o)) end inside span (onward _ _ _ _ _ _ w t0) sp in
        let inner = end - length span.2 in
        then s _ _ _ _ (guard_reads (is_guard p row.place) refl at2 inner span.1 w2) (λ guarded h2 first.
        then s _ _ _ _ (parts_reads row.parts at2 inner ls span.1 w2 (omega (arith, deep, opcode_some o))) (λ ps h3 b.
        let at3 = at2 + length (parts_encoding s.code ps.0) in
        let q = terms_in p row.place in
        made s _ _ _ _ (tail_reads q (tail_in p k) at3 inner ps.1 ps.2 (onward _ _ _ _ _ _ w2 b.takes) (omega (arith, deep, opcode_some o))) (λ t kept.
        let c = subst (λ (m : PathSet). TookTail s levels q (tail_in p k) at3 m ps.2 t) b.behind_is kept in
        let content = parts_encoding s.code ps.0 ++ tail_encoding s.code t.0 in
        let whole : span.1 ≡ content = b.takes.parts ∙ ap (λ (r : List ℕ). parts_encoding s.code ps.0 ++ r) c.text in
        let Spans : List ℕ → Type 0 =
        λ i. Takes inside (package_bytes span.0 (width_len span.0 + length i) ++ i) span.2 × FitsWidth span.0 (width_len span.0 + length i) in
        let spelled : Spans content = subst Spans whole (sp.0, sp.1) in
        let offset : at3 ≡ at + length (encoding s.code (op o (Some span.0) ps.0 empty)) = omega (arith, front_length s.code o span.0 ps.0) in
        let lawful : IsLawful s (suc levels) p ls (op o (Some span.0) ps.0 t.0) = record {
          row = row;
          listed = found.listed;
          taken = takes_taker p row.place taken;
          width = subst (λ (k : Option TailKind). HasWidth k (Some span.0) (length content)) (sym long) spelled.1;
          guarded = λ g.
              subst (λ (b : Bool). IsGuarded b ps.0) (guard_inside p row.place g)
              (guard_holds s levels ls (is_guard p row.place) row.parts ps.0 span.1 ps.2
              (λ g. if_parts o row found.listed (guard_place p row.place g)) first b.is b.takes.parts);
          parts = b.is;
          tail = subst (λ (k : Option TailKind). IsTail s (IsLawful s levels) q (option_map (tail_in p) k) ls t.0) (sym long) c.is.0;
        } in
        subst (TookTerm s (suc levels) p at ls bs) (sym (by_opcode s.scope o row found.listed (Some span.0) ps.0 t.0 t.1 span.2)) (record {
          takes = Takes-then _ _ _ _ _ t0 spelled.0;
          is = (lawful, subst (λ (n : ℕ). TailStands s.code n t.0) offset c.is.1);
          behind_is = ap (λ (m : PathSet). declared_by s.scope (row_of o) m ps.0 t.0) c.behind_is;
        })))))

    row_reads : (k : Option TailKind) → row.tail ≡ k
        → Answers s (TookTerm s (suc levels) p at ls bs) (row_at s.scope read p at row k end ls inside)
    row_reads None short = plain_reads short
    row_reads (Some k) long = packed_reads k long

  -- an opcode that the position takes
  taken_reads : (p : Position) (at end : ℕ) (bs : List ℕ) → Within s.code at end bs
      → Answers s (TookRow s.code p at bs) (taken_at p end bs)
  unfolding taken_at
  taken_reads p at end bs w = then s _ _ _ _ (opcode_reads s at end bs w) (λ o h1 t.
      let there = text_there s.code at end bs (opcode_bytes o.0) o.1 w t.takes.parts in
      then s _ _ _ _ (known s (λ row. row_of o.0 ≡ Some row) (row_of o.0) (CodeFault.UnknownOp (end - length bs))
      (λ none. at_offset s at end bs w (λ n. CodeFault.UnknownOp n) (o.0, t.is, there, none)) (λ row listed. listed)) (λ row h2 listed.
      let f : HasFound s.code at o.0 row = record { is = t.is; there = there; listed = listed } in
      chosen s _ (takes p row.place) _ _ (λ taken. answers s _ (row, o.1) (o.0, (t.takes, (f, taken))))
      (λ other. rw (offset_is s.code at end bs w) (fails s _ (refusal p row.place at) (refusal_placed s.arity s.code at o.0 row f p other)))))

  operation_reads : (p : Position) → Reads s (suc levels) (TookTerm s (suc levels) p) (operation_at s.scope read p)
  unfolding operation_at
  operation_reads p at end ls bs w deep = then s _ _ _ _ (taken_reads p at end bs w) (λ r h t.
      rw (offset_is s.code at end bs w) (row_reads p t.0 r.0 at end ls bs r.1 w deep t.1.0 t.1.1.0 t.1.1.1 (r.0).tail refl))

  -- ---- terms

  pub term_reads : (p : Position) → Reads s (suc levels) (TookTerm s (suc levels) p) (term_at s.arity s.scope read p)
  unfolding term_at
  term_reads p at end ls [] w deep = fails s _ (CodeFault.Truncated end) (end_there s.code at end [] w)
  term_reads p at end ls (lead ∷ behind) w deep =
      let bs : List ℕ = lead ∷ behind in
      chosen s _ (is_name_lead lead) _ _
      (λ is_lead. chosen s _ (takes_names p) _ _ (λ inner. call_reads p inner at end ls lead behind w deep is_lead)
      (λ outer. fails s _ (CodeFault.ModuleCode (end - length bs)) (at_offset s at end bs w (λ n. CodeFault.ModuleCode n)
      (inl (lead, byte_there s.code at end lead behind w, is_lead)))))
      (λ other. chosen s _ (is_absent_target p lead) _ _
      (λ nought.
      let t = is_target p lead nought in
      let taken : Takes bs (0x00 ∷ []) behind = record { parts = ap (λ (n : ℕ). n ∷ behind) t.1; rest_fits = λ i. w.fits (suc i) } in
      answers s _ _ (record { takes = taken; is = (t.0, tt); behind_is = refl }))
      (λ more. operation_reads p at end ls bs w deep))
