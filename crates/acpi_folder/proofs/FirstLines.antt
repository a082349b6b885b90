-- The first line of a text: the bytes up to the one that ends it, or all of them where none does.
use Rattle.acpi_folder.proofs.Common.{◌≤◌, Some, None, ltb, ◌≡◌, ℕ, suc, ◌+◌, ◌<◌, Bool, true, false, not, List, []}
use Rattle.acpi_folder.proofs.Common.{◌∷◌, length, take, drop, refl, ap, arith, cond, eqb, before_first, after_first}
use Rattle.acpi_folder.proofs.Common.{onto_first, position, position_or_len, take_all, drop_all, cond_some, lines_of}
use Rattle.acpi_folder.proofs.Common.{is_line_end}
use Rattle.std.proofs.lemmas.Bool.{ltb-false}

-- a byte in front of a text whose first line has this many bytes
longer : (byte : ℕ) (text : List ℕ) (n : ℕ) → lines_of text ≡ take n text ∷ lines_of (drop (n + 1) text)
    → onto_first byte (lines_of text) ≡ take (1 + n) (byte ∷ text) ∷ lines_of (drop (1 + n + 1) (byte ∷ text))
longer byte text n cut =
    let one : 1 + n ≡ suc n = omega arith in
    let front : take (1 + n) (byte ∷ text) ≡ byte ∷ take n text = ap (λ k. take k (byte ∷ text)) one in
    let two : 1 + n + 1 ≡ suc (n + 1) = omega arith in
    let back : drop (1 + n + 1) (byte ∷ text) ≡ drop (n + 1) text = ap (λ k. drop k (byte ∷ text)) two in
    rw (cut, front, back) refl

lines_of-first : (byte : ℕ) (bytes : List ℕ)
    → lines_of (byte ∷ bytes) ≡ before_first is_line_end (byte ∷ bytes) ∷ lines_of (after_first is_line_end (byte ∷ bytes))
unfolding lines_of
lines_of-first byte [] =
    elim (eqb byte 10) as (λ ends. cond ends ([] ∷ []) ((byte ∷ []) ∷ [])
    ≡ take (cond (not ends) 1 0) (byte ∷ []) ∷ lines_of (drop (cond (not ends) 1 0 + 1) (byte ∷ []))) [
      | true ↦ refl
      | false ↦ refl
    ]
lines_of-first byte (next ∷ bytes) =
    elim (eqb byte 10) as (λ ends. cond ends ([] ∷ lines_of (next ∷ bytes)) (onto_first byte (lines_of (next ∷ bytes)))
    ≡ take (cond (not ends) (1 + position_or_len is_line_end (next ∷ bytes)) 0) (byte ∷ next ∷ bytes)
    ∷ lines_of (drop (cond (not ends) (1 + position_or_len is_line_end (next ∷ bytes)) 0 + 1) (byte ∷ next ∷ bytes))) [
      | true ↦ refl
      | false ↦ longer byte (next ∷ bytes) (position_or_len is_line_end (next ∷ bytes)) (lines_of-first next bytes)
    ]

-- the same, by the index that a search for the end gives
missing : (test : Bool) (index : ℕ) → cond test (Some index) None ≡ None → test ≡ false
missing true index is = cc
missing false index is = refl

pub lines_of-ended : (text : List ℕ) (end : ℕ) → position is_line_end text ≡ Some end
    → lines_of text ≡ take end text ∷ lines_of (drop (end + 1) text)
lines_of-ended [] end is = cc
lines_of-ended (byte ∷ bytes) end is =
    let all : List ℕ = byte ∷ bytes in
    rw (cond_some (ltb (position_or_len is_line_end all) (length all)) (position_or_len is_line_end all) end is).1 at (lines_of-first byte bytes)

pub lines_of-unended : (text : List ℕ) → 0 < length text → position is_line_end text ≡ None
    → lines_of text ≡ text ∷ lines_of []
lines_of-unended [] some is = absurd (omega arith)
lines_of-unended (byte ∷ bytes) some is =
    let all : List ℕ = byte ∷ bytes in
    let end : ℕ = position_or_len is_line_end all in
    let past : length all ≤ end = ltb-false _ _ (missing (ltb end (length all)) end is) in
    cc (lines_of-first byte bytes, take_all end all past, drop_all (end + 1) all (omega arith))

pub ruleset ends = (lines_of-ended, lines_of-unended)
