-- What holds no terms is read again from its bytes, whatever follows them.
use Rattle.aml_parse.proofs.Common.{CodeFault, ◌≡◌, ℕ, suc, ◌+◌, ◌-◌, ◌/◌, ◌%◌, ◌^◌, ◌<◌, ◌≤◌, true, false, cond, eqb}
use Rattle.aml_parse.proofs.Common.{ltb, ◌==◌, List, [], ◌∷◌, ◌++◌, length, drop, Ok, Err, refl, sym, ap, subst, ◌∙◌}
use Rattle.aml_parse.proofs.Common.{append_assoc, arith, inl, inr, All, position_or_len, ne_eqb, lt-ltb, le-ltb}
use Rattle.aml_parse.proofs.Common.{length-append, take_at, drop_at, Name, Seg, is_lead_char, IsNameSeg, IsName}
use Rattle.aml_parse.proofs.Common.{spelling, has_segment, segment_again, name_again, PkgWidth, little, package_bytes}
use Rattle.aml_parse.proofs.Common.{FitsWidth, byte, text, unit, opcode_bytes, IsOpcode, read_on, little_again}
use Rattle.aml_parse.proofs.Common.{length_again}
use Rattle.aml_parse.specs.Reading.{count_part, text_part, segmented_at, opcode_at, named_unit}

-- ---- numbers

pub count_again : (end n : ℕ) (rest : List ℕ) → n ≤ 7 → count_part end (little 1 n ++ rest) ≡ Ok (byte n, rest)
unfolding count_part
count_again end n rest h =
    let less : n < 256 ^ 1 = omega (arith, h) in
    let few : ltb 7 n ≡ false = le-ltb _ _ (omega (arith, h)) in
    rw (little_again 1 end n rest less, few) refl

-- ---- texts

text_len : (bs rest : List ℕ) → All (λ b. (0 < b) × (b < 256)) bs
    → position_or_len (λ b. b == 0) (bs ++ 0 ∷ rest) ≡ length bs
text_len [] rest h = refl
text_len (b ∷ bs) rest h =
    let other : (b == 0) ≡ false = ne_eqb _ _ (λ z. let some : 0 < b = (h 0 0 (omega arith)).0 in absurd (omega (arith, some, z))) in
    rw (other, text_len bs rest (λ i d l. h (suc i) d (omega (arith, l)))) (omega arith)

pub text_again : (end : ℕ) (bs rest : List ℕ) → All (λ b. (0 < b) × (b < 256)) bs
    → text_part end ((bs ++ 0 ∷ []) ++ rest) ≡ Ok (text bs, rest)
text_again end bs rest h =
    let all : List ℕ = bs ++ 0 ∷ rest in
    let same : (bs ++ 0 ∷ []) ++ rest ≡ all = append_assoc bs (0 ∷ []) rest in
    let inside : ltb (length bs) (length all) ≡ true = lt-ltb _ _ (omega (arith, length-append bs (0 ∷ rest))) in
    let back : drop (suc (length bs)) all ≡ rest =
    ap (drop (suc (length bs))) (sym same) ∙ drop_at (bs ++ 0 ∷ []) rest (suc (length bs)) (omega (arith, length-append bs (0 ∷ []))) in
    rw (same, text_len bs rest h, inside, take_at bs (0 ∷ rest) (length bs) refl, back) refl

-- ---- names

pub segmented_again : (end : ℕ) (n : Name) (rest : List ℕ) → IsName n → has_segment n ≡ true
    → segmented_at end (spelling n ++ rest) ≡ Ok (n, rest)
unfolding segmented_at
segmented_again end n rest h some =
    read_on _ _ _ _ (name_again end n rest h) (ap (λ b. cond b (Ok (n, rest)) (Err (CodeFault.EmptyName (end - length (spelling n ++ rest))))) some)

-- ---- opcodes

-- an opcode is read from its bytes, whatever follows
pub opcode_again : (end o : ℕ) (rest : List ℕ) → IsOpcode o → opcode_at end (opcode_bytes o ++ rest) ≡ Ok (o, rest)
unfolding opcode_at
opcode_again end o rest (inl h) =
    let small : ltb o 256 ≡ true = lt-ltb _ _ h.0 in
    let other : eqb o 0x5B ≡ false = ne_eqb _ _ h.1 in
    rw (small, other) refl
opcode_again end o rest (inr h) =
    let big : ltb o 256 ≡ false = le-ltb _ _ (omega (arith, h.0)) in
    let high : o / 256 ≡ 0x5B = omega (arith, h.0, h.1) in
    let whole : 0x5B00 + o % 256 ≡ o = omega (arith, h.0, h.1) in
    rw (big, high) (ap (λ n. Ok (n, rest)) whole)

-- ---- elements of field lists

pub named_unit_again : (end : ℕ) (g : Seg) (w : PkgWidth) (n : ℕ) (rest : List ℕ) → IsNameSeg g.0 → FitsWidth w n
    → named_unit end (g.0 ++ (package_bytes w n ++ rest)) ≡ Ok (unit g w n, rest)
unfolding named_unit
named_unit_again end g w n rest is fits =
    read_on _ _ _ _ (segment_again end g (package_bytes w n ++ rest) is) (read_on _ _ _ _ (length_again end w n rest fits) refl)

-- what begins no segment
pub apart : (a b : ℕ) → is_lead_char a ≡ true → is_lead_char b ≡ false → (a == b) ≡ false
apart a b h g = ne_eqb a b (λ e. let x : is_lead_char b ≡ true = subst (λ (c : ℕ). is_lead_char c ≡ true) e h in absurd (cc (x, g)))
