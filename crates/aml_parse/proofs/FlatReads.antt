-- What a step that holds no terms reads is spelled by the bytes that were taken, and its fault is true of the code.
use Rattle.aml_parse.proofs.Common.{nil_from_length, ◌≡◌, ℕ, zero, suc, ◌+◌, ◌-◌, ◌<◌, ◌≤◌, ◌/◌, ◌%◌, ◌^◌, Bool, true}
use Rattle.aml_parse.proofs.Common.{false, cond, eqb, ltb, ◌==◌, List, [], ◌∷◌, ◌++◌, length, get_or, take, drop}
use Rattle.aml_parse.proofs.Common.{Option, Some, None, Result, Ok, Err, refl, sym, ap, subst, ◌∙◌, append_assoc, arith}
use Rattle.aml_parse.proofs.Common.{inl, inr, position, All, drop-cons, eqb-true, eqb-false, ltb-true, ltb-false}
use Rattle.aml_parse.proofs.Common.{lt-ltb, le-ltb, take-append-drop, position-Some, CodeFault, IsNameSeg, IsName}
use Rattle.aml_parse.proofs.Common.{spelling, name_at, segment_at, has_segment, ◌>>=◌, byte_at, PathSet, segment_fault}
use Rattle.aml_parse.proofs.Common.{segment_takes, name_takes, name_fault, ok_is, err_is, IsBytes, IsBytes-drop, Takes}
use Rattle.aml_parse.proofs.Common.{Takes-then, byte_takes, byte_fault, little, package_bytes, FitsWidth, little_at}
use Rattle.aml_parse.proofs.Common.{length_at, span_at, Part, byte, text, Field, opcode_bytes, part_encoding}
use Rattle.aml_parse.proofs.Common.{field_encoding, IsOpcode, StandsAt, Setting, IsLawful, IsField, IsSpan}
use Rattle.aml_parse.proofs.Common.{little_takes, little_fault, length_takes, length_fault, span_takes, span_fault}
use Rattle.aml_parse.proofs.Common.{Within, onward, text_there, byte_there, end_there, truncated_placed, offset_is}
use Rattle.aml_parse.proofs.Common.{ok_or, length_placed, past_placed, name_placed, Left, PkgWidth, Seg}
use Rattle.aml_parse.specs.Reading.{held, count_part, text_part, segmented_at, opcode_at, named_unit, reserved_unit}
use Rattle.aml_parse.specs.Reading.{access_unit, extended_unit}

-- ---- steps

module _ (s : Setting) where
  -- what a step answers is so, or its fault is true of the code
  pub record Answers {A : Type 0} (Is : A → Type 0) (answer : Result A CodeFault) : Type 0 where
    pub ok : (x : A) → answer ≡ Ok x → Is x
    pub fault : (d : CodeFault) → answer ≡ Err d → StandsAt s.arity s.code d

  pub answers : {A : Type 0} (Is : A → Type 0) (x : A) → Is x → Answers Is (Ok x)
  answers Is x h = record { ok = λ y e. subst Is (ok_is x y e) h; fault = λ d e. absurd cc }

  pub fails : {A : Type 0} (Is : A → Type 0) (d : CodeFault) → StandsAt s.arity s.code d → Answers Is (Err d)
  fails {A = A} Is d h = record { ok = λ y e. absurd cc; fault = λ c e. subst (StandsAt s.arity s.code) (err_is {A = A} d c e) h }

  pub then : {A B : Type 0} (Is : A → Type 0) (Was : B → Type 0) (r : Result A CodeFault) (f : A → Result B CodeFault)
      → Answers Is r
      → ((x : A) → r ≡ Ok x → Is x → Answers Was (f x)) → Answers Was (r >>= f)
  then Is Was (Ok x) f h k = k x refl (h.ok x refl)
  then Is Was (Err d) f h k = fails Was d (h.fault d refl)

  pub made : {A B : Type 0} (Is : A → Type 0) (Was : B → Type 0) (r : Result A CodeFault) (f : A → B) → Answers Is r
      → ((x : A) → Is x → Was (f x))
      → Answers Was (r >>= λ x. Ok (f x))
  made Is Was r f h k = then Is Was r (λ x. Ok (f x)) h (λ x e is. answers Was (f x) (k x is))

  -- a test, by its two sides
  pub chosen : {A : Type 0} (Is : A → Type 0) (b : Bool) (x y : Result A CodeFault) → (b ≡ true → Answers Is x)
      → (b ≡ false → Answers Is y)
      → Answers Is (cond b x y)
  chosen Is true x y g h = g refl
  chosen Is false x y g h = h refl

  -- what may not be known
  pub known : {A : Type 0} (Is : A → Type 0) (o : Option A) (d : CodeFault) → (o ≡ None → StandsAt s.arity s.code d)
      → ((x : A) → o ≡ Some x → Is x)
      → Answers Is (ok_or o d)
  known Is None d none some = fails Is d (none refl)
  known Is (Some x) d none some = answers Is x (some x refl)

-- what was read is spelled by the bytes that were taken, and it is so
pub record TookFlat {A : Type 0} (spelled : A → List ℕ) (Is : A → Type 0) (bs : List ℕ) (x : A × List ℕ) : Type 0 where
  pub takes : Takes bs (spelled x.0) x.1
  pub is : Is x.0

-- ---- bytes, numbers, names and lengths, as they stand in the code

module _ (s : Setting) (at end : ℕ) (bs : List ℕ) (w : Within s.code at end bs) where
  -- a fault at the offset
  pub at_offset : (fault : ℕ → CodeFault) → StandsAt s.arity s.code (fault at)
      → StandsAt s.arity s.code (fault (end - length bs))
  at_offset fault h = subst (λ (n : ℕ). StandsAt s.arity s.code (fault n)) (sym (offset_is s.code at end bs w)) h

  pub byte_reads : Answers s (TookFlat (λ (b : ℕ). b ∷ []) (λ b. b < 256) bs) (byte_at end bs)
  byte_reads = record {
    ok = λ x e. let t = byte_takes end bs x.0 x.1 w.fits e in record { takes = t.0; is = t.1 };
    fault = λ d e. truncated_placed s.arity s.code at end bs d w (byte_fault end bs d e);
  }

  pub little_reads : (k : ℕ) → Answers s (TookFlat (little k) (λ n. n < 256 ^ k) bs) (little_at k end bs)
  little_reads k = record {
    ok = λ n e. let t = little_takes k end bs n.0 n.1 w.fits e in record { takes = t.0; is = t.1 };
    fault = λ d e. truncated_placed s.arity s.code at end bs d w (little_fault k end bs d e);
  }

  pub length_reads : Answers s (TookFlat (λ (n : PkgWidth × ℕ). package_bytes n.0 n.1) (λ n. FitsWidth n.0 n.1) bs) (length_at end bs)
  length_reads = record {
    ok = λ n e. let t = length_takes end bs n w.fits e in record { takes = t.0; is = t.1 };
    fault = λ d e. length_placed s.arity s.code at end bs d w (length_fault end bs d e);
  }

  pub span_reads : Answers s (IsSpan bs) (span_at end bs)
  span_reads = record {
    ok = λ x e. span_takes end bs x w.fits e;
    fault = λ d e. elim (span_fault end bs d w.fits e) [
      | inl f ↦ length_placed s.arity s.code at end bs d w f
      | inr f ↦ past_placed s.arity s.code at end bs d w f
    ];
  }

  segment_reads : Answers s (TookFlat (λ (g : Seg). g.0) (λ g. IsNameSeg g.0) bs) (segment_at end bs)
  segment_reads = record {
    ok = λ g e. let t = segment_takes end bs g.0 g.1 w.fits e in record { takes = t.0; is = t.1 };
    fault = λ d e. name_placed s.arity s.code at end bs d w (segment_fault end bs d e);
  }

  pub name_reads : Answers s (TookFlat spelling IsName bs) (name_at end bs)
  name_reads = record {
    ok = λ n e. let t = name_takes end bs n.0 n.1 w.fits e in record { takes = t.0; is = t.1 };
    fault = λ d e. name_placed s.arity s.code at end bs d w (name_fault end bs d e);
  }

-- what was read, as what holds it
pub held_reads : {A B : Type 0} (s : Setting) (spelled : A → List ℕ) (Is : A → Type 0) (whole : B → List ℕ) (Was : B → Type 0) (hold : A → B) (bs : List ℕ)
    (step : Left A) → Answers s (TookFlat spelled Is bs) step → ((x : A) → whole (hold x) ≡ spelled x) → ((x : A) → Is x → Was (hold x))
    → Answers s (TookFlat whole Was bs) (held hold step)
held_reads s spelled Is whole Was hold bs step h so was = made s _ _ _ _ h (λ x t.
    record { takes = subst (λ (b : List ℕ). Takes bs b x.1) (sym (so x.0)) t.takes; is = was x.0 t.is })

text_bytes : (n : ℕ) (bs : List ℕ) → n ≤ length bs → ((k : ℕ) → k < n → (get_or bs k 0 == 0) ≡ false) → IsBytes bs
    → All (λ b. (0 < b) × (b < 256)) (take n bs)
text_bytes zero bs le h fits k d less = absurd (omega (arith, less))
text_bytes (suc n) [] le h fits k d less = absurd (omega arith)
text_bytes (suc n) (b ∷ bs) le h fits zero d less = (omega (arith, eqb-false b 0 (h 0 (omega arith))), fits 0)
text_bytes (suc n) (b ∷ bs) le h fits (suc k) d less =
    text_bytes n bs (omega arith) (λ j l. h (suc j) (omega (arith, l))) (λ i. fits (suc i)) k d (omega (arith, less))

pub behind_lead : (lead : ℕ) (bs front rest : List ℕ) → Takes bs front rest → Takes (lead ∷ bs) (lead ∷ front) rest
behind_lead lead bs front rest t = record { parts = ap (λ (b : List ℕ). lead ∷ b) t.parts; rest_fits = t.rest_fits }

module _ (s : Setting) (at end : ℕ) (bs : List ℕ) (w : Within s.code at end bs) where
  -- a name with a segment
  pub segmented_reads : Answers s (TookFlat spelling (λ n. IsName n × (has_segment n ≡ true)) bs) (segmented_at end bs)
  unfolding segmented_at
  segmented_reads = then s _ _ _ _ (name_reads s at end bs w) (λ n e t. chosen s _ (has_segment n.0) _ _
      (λ some. answers s _ n (record { takes = t.takes; is = (t.is, some) }))
      (λ none. fails s _ (CodeFault.EmptyName (end - length bs)) (at_offset s at end bs w (λ i. CodeFault.EmptyName i)
      (n.0, t.is, text_there s.code at end bs (spelling n.0) n.1 w t.takes.parts, nil_from_length (n.0).segs (omega (arith, ltb-false _ _ none))))))

  -- a one-byte opcode, or 5B and a second byte
  pub opcode_reads : Answers s (TookFlat opcode_bytes IsOpcode bs) (opcode_at end bs)
  unfolding opcode_at
  opcode_reads = then s _ _ _ _ (byte_reads s at end bs w) (λ lead e t. chosen s _ (eqb lead.0 0x5B) _ _
      (λ long. made s _ _ _ _ (byte_reads s _ end _ (onward _ _ _ _ _ _ w t.takes)) (λ second u.
      let is = two_bytes second.0 u.is in
      let front = ap (λ (n : ℕ). n ∷ second.0 ∷ []) (eqb-true lead.0 0x5B long) ∙ sym is.0 in
      record { takes = subst (λ (b : List ℕ). Takes bs b second.1) front (Takes-then _ _ _ _ _ t.takes u.takes); is = is.1 }))
      (λ short.
      let is = one_byte lead.0 t.is (eqb-false lead.0 0x5B short) in
      answers s _ lead (record { takes = subst (λ (b : List ℕ). Takes bs b lead.1) (sym is.0) t.takes; is = is.1 })))
    where
      two_bytes : (second : ℕ) → second < 256
          → (opcode_bytes (0x5B00 + second) ≡ 0x5B ∷ second ∷ []) × IsOpcode (0x5B00 + second)
      two_bytes second less =
          let big : ltb (0x5B00 + second) 256 ≡ false = le-ltb _ _ (omega arith) in
          let high : (0x5B00 + second) / 256 ≡ 0x5B = omega (arith, less) in
          let low : (0x5B00 + second) % 256 ≡ second = omega (arith, less) in
          (rw (big, high, low) refl, inr (omega arith, omega (arith, less)))

      one_byte : (lead : ℕ) → lead < 256 → (lead ≡ 0x5B → ⊥) → (opcode_bytes lead ≡ lead ∷ []) × IsOpcode lead
      one_byte lead less other = let small : ltb lead 256 ≡ true = lt-ltb _ _ less in (rw small refl, inl (less, other))

module _ (s : Setting) (Is : Part → Type 0) (at end : ℕ) (bs : List ℕ) (w : Within s.code at end bs) where
  -- a number of arguments
  pub count_reads : ((n : ℕ) → n ≤ 7 → Is (byte n))
      → Answers s (TookFlat (part_encoding s.code) Is bs) (count_part end bs)
  unfolding count_part
  count_reads is = then s _ _ _ _ (little_reads s at end bs w 1) (λ n e t. chosen s _ (ltb 7 n.0) _ _
      (λ many.
      let low : n.0 % 256 ≡ n.0 = omega (arith, t.is) in
      let here : Within s.code at end (n.0 ∷ n.1) = subst (Within s.code at end) (t.takes.parts ∙ ap (λ m. m ∷ n.1) low) w in
      fails s _ (CodeFault.BadCount (end - length bs))
      (at_offset s at end bs w (λ i. CodeFault.BadCount i) (n.0, byte_there s.code at end n.0 n.1 here, ltb-true _ _ many)))
      (λ few. answers s _ (byte n.0, n.1) (record { takes = t.takes; is = is n.0 (omega (arith, ltb-false _ _ few)) })))

  -- a text up to its 00
  pub text_reads : ((t : List ℕ) → All (λ b. (0 < b) × (b < 256)) t → Is (text t))
      → Answers s (TookFlat (part_encoding s.code) Is bs) (text_part end bs)
  text_reads is = then s _ _ _ _ (known s (λ n. position (λ b. b == 0) bs ≡ Some n) (position (λ b. b == 0) bs) (CodeFault.Truncated end)
      (λ none. end_there s.code at end bs w) (λ n found. found)) (λ n e found.
      let p = position-Some (λ b. b == 0) bs n 0 found in
      let cut : drop n bs ≡ 0 ∷ drop (suc n) bs = drop-cons bs n 0 p.0 ∙ ap (λ m. m ∷ drop (suc n) bs) (eqb-true _ _ p.1) in
      let parts : bs ≡ (take n bs ++ 0 ∷ []) ++ drop (suc n) bs =
      sym (take-append-drop n bs) ∙ ap (λ (t : List ℕ). take n bs ++ t) cut ∙ sym (append_assoc (take n bs) (0 ∷ []) (drop (suc n) bs)) in
      answers s _ (text (take n bs), drop (suc n) bs) (record {
        takes = record { parts = parts; rest_fits = IsBytes-drop (suc n) bs w.fits };
        is = is (take n bs) (text_bytes n bs (omega (arith, p.0)) p.2 w.fits);
      }))

-- ---- elements of field lists

module _ (s : Setting) (levels : ℕ) (ls : PathSet) (at end : ℕ) (bs : List ℕ) (w : Within s.code at end bs) where
  abbrev TookUnit : List ℕ → Field × List ℕ → Type 0
  TookUnit whole = TookFlat (field_encoding s.code) (IsField (λ q. IsLawful s levels q ls)) whole

  pub named_unit_reads : Answers s (TookUnit bs) (named_unit end bs)
  unfolding named_unit
  named_unit_reads = then s _ _ _ _ (segment_reads s at end bs w) (λ g e t.
      made s _ _ _ _ (length_reads s _ end _ (onward _ _ _ _ _ _ w t.takes)) (λ n u.
      record { takes = Takes-then _ _ _ _ _ t.takes u.takes; is = (t.is, u.is) }))

  pub reserved_reads : Answers s (TookUnit (0x00 ∷ bs)) (reserved_unit end bs)
  reserved_reads = made s _ _ _ _ (length_reads s at end bs w) (λ n t. record { takes = behind_lead 0x00 _ _ _ t.takes; is = t.is })

  pub access_reads : Answers s (TookUnit (0x01 ∷ bs)) (access_unit end bs)
  unfolding access_unit
  access_reads = then s _ _ _ _ (byte_reads s at end bs w) (λ a e t.
      made s _ _ _ _ (byte_reads s _ end _ (onward _ _ _ _ _ _ w t.takes)) (λ b u.
      record { takes = behind_lead 0x01 _ _ _ (Takes-then _ _ _ _ _ t.takes u.takes); is = (t.is, u.is) }))

  pub extended_reads : Answers s (TookUnit (0x03 ∷ bs)) (extended_unit end bs)
  unfolding extended_unit
  extended_reads = then s _ _ _ _ (byte_reads s at end bs w) (λ a e t.
      let w1 = onward _ _ _ _ _ _ w t.takes in
      then s _ _ _ _ (byte_reads s _ end _ w1) (λ b e1 u.
      made s _ _ _ _ (byte_reads s _ end _ (onward _ _ _ _ _ _ w1 u.takes)) (λ c v.
      let all = Takes-then _ _ _ _ _ (Takes-then _ _ _ _ _ t.takes u.takes) v.takes in
      record { takes = behind_lead 0x03 _ _ _ all; is = (t.is, u.is, v.is) })))
