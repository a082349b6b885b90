-- Outside the terms of a table there is no method's body, and no other span that is read later.
use Rattle.aml_parse.proofs.Common.{TailKind, ◌≡◌, ℕ, ◌+◌, ◌-◌, Bool, true, false, cond, not, List, ◌++◌, length, Some}
use Rattle.aml_parse.proofs.Common.{refl, ap, ◌⊎◌, inl, inr, arith, length-append, front_length, empty, Place, Position}
use Rattle.aml_parse.proofs.Common.{Row, rows, row_of, takes, PkgWidth, width_len, length-package_bytes, Tree, op}
use Rattle.aml_parse.proofs.Common.{Trees, tree_more, Parts, Tail, encoding, encodings, parts_encoding, tail_encoding}
use Rattle.aml_parse.proofs.Common.{terms_in, has_opcode, next_position, tail_in, option_map, BodyStands, BodiesStand}
use Rattle.aml_parse.proofs.Common.{TailStands, is_body, not_true, rows_say}

-- a position that isn't a term of a table
abbrev pub is_bodiless : Position → Bool
is_bodiless Position.ModuleTerm = false
is_bodiless Position.GuardTerm = false
is_bodiless Position.RunTerm = false
is_bodiless Position.RunAfterIf = false
is_bodiless _ = true

body_or_if : (b : Bool) → is_bodiless (cond b Position.AfterIf Position.BodyTerm) ≡ true
body_or_if true = refl
body_or_if false = refl

pub next_bodiless : (p : Position) (t : Tree) → is_bodiless p ≡ true → is_bodiless (next_position p t) ≡ true
next_bodiless Position.BodyTerm t h = body_or_if (has_opcode 0xA0 t)
next_bodiless Position.AfterIf t h = body_or_if (has_opcode 0xA0 t)
next_bodiless Position.RunTerm t h = absurd cc
next_bodiless Position.RunAfterIf t h = absurd cc
next_bodiless _ t h = h

pub inner_bodiless : (p : Position) (place : Place) → is_bodiless p ≡ true → is_bodiless (terms_in p place) ≡ true
inner_bodiless Position.ModuleTerm place h = absurd cc
inner_bodiless Position.RunTerm place h = absurd cc
inner_bodiless Position.RunAfterIf place h = absurd cc
inner_bodiless _ place h = refl

-- outside tables no position takes what has a body
pub no_body : (p : Position) (o : ℕ) (r : Row) → is_bodiless p ≡ true → row_of o ≡ Some r → takes p r.place ≡ true
    → option_map (tail_in p) r.tail ≡ Some TailKind.Body → ⊥
unfolding rows
no_body Position.ModuleTerm o r h listed taken e = absurd cc
no_body Position.GuardTerm o r h listed taken e = absurd cc
no_body Position.RunTerm o r h listed taken e = absurd cc
no_body Position.RunAfterIf o r h listed taken e = absurd cc
no_body p o r h listed taken e =
    let other = rows_say (λ r. takes p r.place) (λ r. not (is_body (option_map (tail_in p) r.tail))) refl o r listed taken in absurd (cc (not_true _ other, ap is_body e))

-- ---- a method's body stands where it is spelled, or there is none

-- where nothing is free of bodies, the bytes begin at an offset, and what holds there holds at it
abbrev pub Standing : Type 0 → (ℕ → Type 0) → ℕ → List ℕ → Type 0
Standing Free Stand end bs = Free ⊎ ((at : ℕ) × (at + length bs ≡ end) × Stand at)

module _ (code : List ℕ) (p : Position) (end : ℕ) where
  -- of several terms: the first, and the others
  pub both_stand : (t : Tree) (ts : Trees)
      → Standing (is_bodiless p ≡ true) (λ at. BodiesStand code at (tree_more t ts)) end (encoding code t ++ encodings code ts)
      → Standing (is_bodiless p ≡ true) (λ at. BodyStands code at t) end (encoding code t ++ encodings code ts)
      × Standing (is_bodiless (next_position p t) ≡ true) (λ at. BodiesStand code at ts) end (encodings code ts)
  both_stand t ts (inl h) = (inl h, inl (next_bodiless p t h))
  both_stand t ts (inr (at, place, b)) =
      (inr (at, place, b.0), inr (at + length (encoding code t), omega (arith, place, length-append (encoding code t) (encodings code ts)), b.1))

  -- of an operation: its tail
  pub tail_stands : (o : ℕ) (row : Row) (w : PkgWidth) (ps : Parts) (t : Tail) (rest : List ℕ) → row_of o ≡ Some row
      → takes p row.place ≡ true
      → Standing (is_bodiless p ≡ true) (λ at. BodyStands code at (op o (Some w) ps t)) end (encoding code (op o (Some w) ps t) ++ rest)
      → Standing ((is_bodiless (terms_in p row.place) ≡ true) × (option_map (tail_in p) row.tail ≡ Some TailKind.Body → ⊥)) (λ at. TailStands code at t) (end - length rest)
      (tail_encoding code t)
  tail_stands o row w ps t rest listed taken (inl h) = inl (inner_bodiless p row.place h, no_body p o row h listed taken)
  tail_stands o row w ps t rest listed taken (inr (at, place, b)) =
      let size = length-package_bytes w (width_len w + length (parts_encoding code ps ++ tail_encoding code t)) in
      inr (at + length (encoding code (op o (Some w) ps empty)), omega (arith, place, size, front_length code o w ps, length-append {A = ℕ}), b)
